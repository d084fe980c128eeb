-- tests of sameness, and equality
use Rattle.std.proofs.Common.{◌≡◌, refl, sym, ap, Bool, true, false, List, ℕ}
use Rattle.std.proofs.lemmas.Bool.{false≢true}
use Rattle.std.specs.Str.{bytes_eq}
use Rattle.std.specs.Cmp.Lexicographic.{bytes_decides}
use Rattle.grant_tracks.specs.declared.things.What.{What}
use Rattle.grant_tracks.specs.declared.things.What.TheVariants as what
use Rattle.grant_tracks.specs.What.{same_what}

pub both_ways : (a b : Bool) → (a ≡ true → b ≡ true) → (b ≡ true → a ≡ true) → a ≡ b
both_ways true b f g = sym (f refl)
both_ways false true f g = g refl
both_ways false false f g = refl

pub text_itself : (a : List ℕ) → bytes_eq a a ≡ true
text_itself a = (bytes_decides a a).1 refl

pub texts_swap : (a b : List ℕ) → bytes_eq a b ≡ bytes_eq b a
texts_swap a b = both_ways (bytes_eq a b) (bytes_eq b a) (λ h. (bytes_decides b a).1 (sym ((bytes_decides a b).0 h))) (λ h. (bytes_decides a b).1 (sym ((bytes_decides b a).0 h)))

pub whats : (a b : What) → same_what a b ≡ true → a ≡ b
whats what.Exists what.Exists h = refl
whats what.Exists (what.Channel d) h = absurd (false≢true h)
whats what.Exists (what.Role s) h = absurd (false≢true h)
whats (what.Channel c) what.Exists h = absurd (false≢true h)
whats (what.Channel c) (what.Channel d) h = ap (λ (x : List ℕ). what.Channel x) ((bytes_decides c d).0 h)
whats (what.Channel c) (what.Role s) h = absurd (false≢true h)
whats (what.Role r) what.Exists h = absurd (false≢true h)
whats (what.Role r) (what.Channel d) h = absurd (false≢true h)
whats (what.Role r) (what.Role s) h = ap (λ (x : List ℕ). what.Role x) ((bytes_decides r s).0 h)

pub what_itself : (a : What) → same_what a a ≡ true
what_itself what.Exists = refl
what_itself (what.Channel c) = text_itself c
what_itself (what.Role r) = text_itself r
