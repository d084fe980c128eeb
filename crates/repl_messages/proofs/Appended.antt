-- Two texts that were put at the end, one after the other.
use Rattle.std.proofs.Common.{◌≡◌, ℕ, List, ◌++◌, Result, Ok, Err, OnOk, ap, ◌∙◌, append_assoc}

pub appended_two : {A E : Type 0} (r : Result A E) (out mid new text more : List ℕ) → mid ≡ out ++ text → OnOk r (new ≡ mid ++ more) → OnOk r (new ≡ out ++ (text ++ more))
appended_two (Ok x) out mid new text more e h = h ∙ ap (λ m. m ++ more) e ∙ append_assoc out text more
appended_two (Err x) out mid new text more e h = h
