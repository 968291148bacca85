use Rattle.std.specs.Prelude.{◌≡◌, true, false, [], None, codes}
use Rattle.source.specs.declared.ending.Damage.TheVariants as damage
use Rattle.source.specs.declared.ending.Ending.TheVariants.{Clean, Damaged}
use Rattle.decoding.specs.Decoding.{gives}
use Rattle.subfile.specs.SubFile.{sub_step, sub_of}

-- decodings of short texts
pub record SubFileExamples : Type 0 where
  -- the mark is dropped, at its first place
  pub dropped : sub_of 0 (codes "ee") (codes "aeeeb") Clean ≡ gives (codes "a") Clean (codes "eb") false
  pub again : sub_of 0 (codes "ab") (codes "aabX") Clean ≡ gives (codes "a") Clean (codes "X") false
  pub nearly : sub_of 0 (codes "abd") (codes "abcabd!") Clean ≡ gives (codes "abc") Clean (codes "!") false
  -- instances are handed up, and do not overlap
  pub apart : sub_of 2 (codes "aa") (codes "aaaaab") Clean ≡ gives (codes "aaaa") Clean (codes "ab") false
  pub whole : sub_of 2 (codes "ee") (codes "eefee") Clean ≡ gives (codes "eefee") Clean [] false
  -- the end before the mark
  pub cut : sub_of 0 (codes "ee") (codes "e") Clean ≡ gives (codes "e") (Damaged damage.CutShort 0) [] true
  -- no mark
  pub all : sub_of 0 [] (codes "ab") Clean ≡ gives (codes "ab") Clean [] true
  pub short : sub_of 3 [] (codes "ab") Clean ≡ gives (codes "ab") (Damaged damage.CutShort 0) [] true
  pub two : sub_of 2 [] (codes "abc") Clean ≡ gives (codes "ab") Clean (codes "c") false
  pub deep : sub_of 0 [] (codes "a") (Damaged damage.Stray 255) ≡ gives (codes "a") (Damaged damage.Stray 255) [] true
  -- one step takes two bytes to hand up one
  pub step :
      sub_step (record { count = 0; mark = codes "ab" }) [] (codes "aabX") Clean
      ≡ record { answer = record { ready = codes "a"; compared = codes "a"; kind = record { count = 0; mark = codes "ab" }; ended = None }; left = codes "bX"; peeked = false }
