use Rattle.std.proofs.Common.{◌∙◌, inl, inr}
use Rattle.listing.proofs.ShownUses.{escaped_none, hexadecimal_none, signed_some}
use Rattle.listing.proofs.contents.shows_nothing.Goals as goal

pub returns-in-Decimal : goal.returns-in-Decimal
returns-in-Decimal c = rw c.in-Decimal.is (signed_some c.in-Decimal.field-0)

pub returns-in-Escaped : goal.returns-in-Escaped
returns-in-Escaped c = elim c.in-Escaped.is [
  | inl e ↦ rw e (c.is_empty.ensures ∙ escaped_none c.args.content.now)
  | inr e ↦ elim e [
    | inl e ↦ rw e c.is_empty.ensures
    | inr e ↦ rw e (c.is_empty.ensures ∙ hexadecimal_none c.args.content.now)
  ]
]
