use Rattle.std.proofs.Common.{Err, sym, ap, ◌∙◌, rules}
use Rattle.std.proofs.lemmas.List.{length-take-le}
use Rattle.scanner.specs.declared.kinds.Kind.TheVariants.{String}
use Rattle.scanner.specs.declared.tokens.Start.TheVariants as start
use Rattle.scanner.specs.Strings.{string_of}
use Rattle.scanner.specs.Tokens.{tokened, greater_of}
use Rattle.scanner.proofs.Mapped.{tokened_map, given_back, scans_token}
use Rattle.scanner.proofs.PieceUses.{steady_take_if}
use Rattle.scanner.proofs.Steadiness.{steady_string, steady_name, steady_less}
use Rattle.scanner.proofs.TokenUses.{name_run, word_within, word_judged, word_stopped, next_run, next_behind, scans_bare}
use Rattle.scanner.proofs.tokens.next_token.Goals as goal

pub slice_bounds-judged-end : goal.slice_bounds-judged-end
slice_bounds-judged-end g c = word_within g.S.Source.model _ _ _ _ c.in_ok-n.n c.in_ok-n.ensures

pub slice_bounds-judged-end-in_default : goal.slice_bounds-judged-end-in_default
slice_bounds-judged-end-in_default g c = sym (length-take-le c.in_ok-n.n c.run.new.area (word_within g.S.Source.model _ _ _ _ c.in_ok-n.n c.in_ok-n.ensures))

pub returns-in_default : goal.returns-in_default
returns-in_default g c =
    next_run g.S.Source.model g.met.S.Source.lawful _ _ _ _ _ c.in-Ok.b c.in-Ok.ensures.answer c.look.ensures.after c.judged.result c.in_default.ensures
    (word_judged g.S.Source.model _ _ _ _ c.in_ok-n.n c.in_ok-n.ensures g.met.S.Source.lawful c.judged.result c.judged.ensures)

pub returns-in_err-n : goal.returns-in_err-n
returns-in_err-n g c =
    rw (given_back c.from_residual.result _ c.from_residual.ensures.1)
    (next_run g.S.Source.model g.met.S.Source.lawful _ _ _ _ _ c.in-Ok.b c.in-Ok.ensures.answer c.look.ensures.after (Err c.in_err-n.field-0.0) c.in_default.ensures
    (word_stopped g.S.Source.model _ _ _ _ c.in_err-n.field-0.0 c.in_err-n.ensures))

pub returns-in-String : goal.returns-in-String
returns-in-String g c =
    let e = tokened_map String c.string.result c.map.result _ (λ n y p. search rules) c.map.ensures.cases in
    next_behind g.S.Source.model g.met.S.Source.lawful _ _ _ _ _ c.in-Ok.b c.in-Ok.ensures.answer c.look.ensures.after _ c.take.ensures.after
    _ start.String c.in-Some.ensures c.in-String.is steady_string c.map.result
    (scans_token g.S.Source.model string_of _ _ _ _ c.string.result String c.map.result e c.string.ensures)

pub returns-in-Slash : goal.returns-in-Slash
returns-in-Slash g c =
    let e = tokened_map c.slashed-kind.result c.run-in-Slash.result c.map-in-Slash.result _ (λ n y p. search rules) c.map-in-Slash.ensures.cases in
    next_behind g.S.Source.model g.met.S.Source.lawful _ _ _ _ _ c.in-Ok.b c.in-Ok.ensures.answer c.look.ensures.after _ c.take.ensures.after
    _ start.Slash c.in-Some.ensures c.in-Slash.is steady_name c.map-in-Slash.result
    (name_run g.S.Source.model g.met.S.Source.lawful _ _ _ _ _ c.take_if.result c.run-in-Slash.result c.map-in-Slash.result c.take_if.ensures c.run-in-Slash.ensures
    (e ∙ ap (λ k. tokened k c.run-in-Slash.result) c.slashed-kind.ensures))

pub returns-in-Less : goal.returns-in-Less
returns-in-Less g c =
    next_behind g.S.Source.model g.met.S.Source.lawful _ _ _ _ _ c.in-Ok.b c.in-Ok.ensures.answer c.look.ensures.after _ c.take.ensures.after
    _ start.Less c.in-Some.ensures c.in-Less.is steady_less c.less.result c.less.ensures

pub returns-in-Greater : goal.returns-in-Greater
returns-in-Greater g c =
    next_behind g.S.Source.model g.met.S.Source.lawful _ _ _ _ _ c.in-Ok.b c.in-Ok.ensures.answer c.look.ensures.after _ c.take.ensures.after
    _ start.Greater c.in-Some.ensures c.in-Greater.is (λ room. steady_take_if 62) c.greater.result
    (scans_bare g.S.Source.model greater_of _ c.args.area.now c.greater.result _ c.greater.ensures)
