use Rattle.std.specs.Prelude.{◌≡◌, [], codes}
use Rattle.t1dump.specs.Texts.{printed}

-- worked listings
pub record Examples : Type 0 where
  pub text :
      printed (codes "/a 16#1F (x\\)y) [.50%c") ≡ codes "0 literal a\n0 integer 31\n0 string 782979\n0 [\n0 real .50\nend 0 0\n"
  pub nothing : printed [] ≡ codes "end 0 0\n"
  pub names : printed (codes "a\\b //c/ d") ≡ codes "0 name a\\134b\n0 immediate c\n0 literal\n0 name d\nend 0 0\n"
  pub numbers :
      printed (codes "+5 -0 2147483648 -2147483648 16#FFFFFFFF") ≡ codes "0 integer 5\n0 integer 0\n0 real 2147483648\n0 integer -2147483648\n0 integer -1\nend 0 0\n"
  pub angles : printed (codes "<<<41>>>") ≡ codes "0 <<\n0 hexstring 41\n0 >>\nend 0 0\n"
  pub fault : printed (codes "a)b") ≡ codes "0 name a\nfault 36 0\n"
  pub unended : printed (codes "(a") ≡ codes "fault 32 0\n"
