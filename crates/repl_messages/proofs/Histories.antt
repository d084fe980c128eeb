-- A text that is the journal's word for none is no history of a message.
use Rattle.std.proofs.Common.{◌≡◌, ℕ, true, IsTrue, List, [], ◌∷◌, refl, sym, ◌∙◌}
use Rattle.std.specs.Str.{bytes_eq}
use Rattle.std.proofs.lemmas.Slice.Eq.{bytes_eq-Decides}
use Rattle.sg_names.specs.Revs.{revs_text, is_revs}
use Rattle.sg_names.specs.declared.rev_id.RevId.{RevId}
use Rattle.repl_messages.specs.Revisions.{history_text}

-- where a text is that of one list of revisions
pub dash_unread : ((k l : List RevId) → IsTrue (is_revs k) → IsTrue (is_revs l) → revs_text k ≡ revs_text l → k ≡ l)
    → (text : List ℕ) → true ≡ bytes_eq text (45 ∷ []) → (revs : List RevId) → IsTrue (is_revs revs) × (text ≡ history_text revs) → ⊥
dash_unread one text e [] (h, f) =
    let dash : text ≡ 45 ∷ [] = (bytes_eq-Decides text (45 ∷ [])).0 (sym e) in
    let none : text ≡ [] = f in
    cc
dash_unread one text e (r ∷ rs) (h, f) =
    let dash : text ≡ 45 ∷ [] = (bytes_eq-Decides text (45 ∷ [])).0 (sym e) in
    let same : [] ≡ r ∷ rs = one [] (r ∷ rs) refl h (sym dash ∙ f) in
    cc
