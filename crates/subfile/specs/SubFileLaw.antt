use Rattle.std.specs.Prelude.{◌≡◌, ℕ, ◌+◌, ◌<◌, ◌≤◌, true, false, ◌⊎◌, List, [], ◌++◌, length, take, drop, ◌≢◌}
use Rattle.source.specs.declared.ending.Ending.{Ending}
use Rattle.source.specs.declared.ending.Ending.TheVariants.{Clean}
use Rattle.decoding.specs.Decoding.{Decoding, gives}
use Rattle.decoding.specs.Ends.{passed, above}
use Rattle.subfile.specs.SubFile.{sub_of}

-- the mark stands nowhere in the rest
abbrev pub Nowhere : List ℕ → List ℕ → Type 0
Nowhere mark rest = (f b : List ℕ) → rest ≢ f ++ (mark ++ b)

-- behind `front` is the first place where the mark stands
abbrev pub FirstPlace : List ℕ → List ℕ → List ℕ → Type 0
FirstPlace mark front behind = (f b : List ℕ) → front ++ (mark ++ behind) ≡ f ++ (mark ++ b) → length front ≤ length f

-- the rest has a first place of the mark
pub record Placed (mark rest : List ℕ) : Type 0 where
  pub front : List ℕ
  pub behind : List ℕ
  pub joined : rest ≡ front ++ (mark ++ behind)
  pub place : FirstPlace mark front behind

-- bytes that are handed up before others
abbrev pub led : List ℕ → Decoding → Decoding
led front d = record { bytes = front ++ d.bytes; ending = d.ending; left = d.left; peeked = d.peeked }

-- what SubFileDecode makes of a rest and an ending
pub record SubFileLaw : Type 0 where
  -- no mark and no count: all bytes, and it ends as the one below
  pub all : (rest : List ℕ) (e : Ending) → sub_of 0 [] rest e ≡ gives rest (passed e) [] true
  -- no mark: as many bytes as the count says
  pub enough :
      (n : ℕ) (rest : List ℕ) (e : Ending) → 0 < n → n ≤ length rest
      → sub_of n [] rest e ≡ gives (take n rest) Clean (drop n rest) false
  pub too_few :
      (n : ℕ) (rest : List ℕ) (e : Ending) → length rest < n → sub_of n [] rest e ≡ gives rest (above e) [] true
  -- a mark stands somewhere, and then has a first place, or it stands nowhere
  pub either : (mark rest : List ℕ) → Placed mark rest ⊎ Nowhere mark rest
  -- a mark that stands nowhere is missed at the end below
  pub missing :
      (n : ℕ) (mark rest : List ℕ) (e : Ending) → 0 < length mark → Nowhere mark rest
      → sub_of n mark rest e ≡ gives rest (above e) [] true
  -- no count: what stands before the first place of the mark, which is dropped
  pub before :
      (mark front behind : List ℕ) (e : Ending) → 0 < length mark → FirstPlace mark front behind
      → sub_of 0 mark (front ++ (mark ++ behind)) e ≡ gives front Clean behind false
  -- a count: the mark is handed up too, and the next one is looked for behind it, unless this was the last
  pub last :
      (mark front behind : List ℕ) (e : Ending) → 0 < length mark → FirstPlace mark front behind
      → sub_of 1 mark (front ++ (mark ++ behind)) e ≡ gives (front ++ mark) Clean behind false
  pub next :
      (n : ℕ) (mark front behind : List ℕ) (e : Ending) → 0 < n → 0 < length mark → FirstPlace mark front behind
      → sub_of (n + 1) mark (front ++ (mark ++ behind)) e ≡ led (front ++ mark) (sub_of n mark behind e)
