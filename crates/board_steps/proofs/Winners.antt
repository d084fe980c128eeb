-- The write of a document's current revision.
use Rattle.std.proofs.Common.{◌≡◌, ℕ, ◌+◌, refl, sym, ◌∙◌, ap, subst, Bool, true, false, if◌then◌else◌, List, [], ◌∷◌, length, Option, Some, None}
use Rattle.std.proofs.lemmas.Option.{none-some, same_Some}
use Rattle.std.specs.Str.{bytes_eq}
use Rattle.sg_names.specs.declared.rev_id.RevId.{RevId}
use Rattle.sg_names.specs.RevId.{same_rev}
use Rattle.sg_history.specs.declared.entries.Entry.{Entry}
use Rattle.sg_history.specs.declared.entries.Write.{Write}
use Rattle.sg_history.specs.History.{as_write, of_document, write_to}
use Rattle.sg_history.specs.Current.{Current, Sequenced, sequenced_or, last_write, write_of_rev, with_rev_or, write_or, current, current_after, current_by, winning_of}
use Rattle.repl_messages.specs.Looks.{winning_write, winner_after}
use Rattle.board_steps.proofs.Same.{same_bytes}

names_by : (o : Option Write) (doc : List ℕ) (w : Write) → of_document o doc ≡ Some w → w.doc ≡ doc
names_by None doc v h = absurd (none-some _ h)
names_by (Some w) doc v h = go (bytes_eq w.doc doc) refl h
  where
    go : (b : Bool) → bytes_eq w.doc doc ≡ b → (if b then Some w else None) ≡ Some v → v.doc ≡ doc
    go true e h = let same : w ≡ v = same_Some w v h in sym (ap (λ (x : Write). x.doc) same) ∙ same_bytes w.doc doc e
    go false e h = absurd (none-some _ h)

pub write_names : (e : Entry) (doc : List ℕ) (w : Write) → write_to e doc ≡ Some w → w.doc ≡ doc
write_names e doc w h = names_by (as_write e) doc w h

last_names : (es : List Entry) (doc : List ℕ) (l : Sequenced) → last_write es doc ≡ Some l → l.write.doc ≡ doc
last_names [] doc l h = absurd (none-some _ h)
last_names (e ∷ older) doc l h = go (write_to e doc) refl (last_names older doc l) h
  where
    go : (w : Option Write) → write_to e doc ≡ w → (last_write older doc ≡ Some l → l.write.doc ≡ doc) → sequenced_or w (length older + 1) (last_write older doc) ≡ Some l → l.write.doc ≡ doc
    go None p rest h = rest h
    go (Some w) p rest h = let same : w ≡ l.write = cc in sym (ap (λ (x : Write). x.doc) same) ∙ write_names e doc w p

of_rev_names : (es : List Entry) (doc : List ℕ) (rev : RevId) (w : Sequenced) → write_of_rev es doc rev ≡ Some w → w.write.doc ≡ doc
of_rev_names [] doc rev w h = absurd (none-some _ h)
of_rev_names (e ∷ older) doc rev w h = go (write_to e doc) refl (of_rev_names older doc rev w) h
  where
    pick : (v : Write) (b : Bool) → write_to e doc ≡ Some v → (write_of_rev older doc rev ≡ Some w → w.write.doc ≡ doc) → (if b then Some (record { seq = length older + 1; write = v }) else write_of_rev older doc rev) ≡ Some w → w.write.doc ≡ doc
    pick v true p rest h = let same : record { seq = length older + 1; write = v } ≡ w = same_Some (record { seq = length older + 1; write = v }) w h in sym (ap (λ (x : Sequenced). x.write.doc) same) ∙ write_names e doc v p
    pick v false p rest h = rest h

    go : (v : Option Write) → write_to e doc ≡ v → (write_of_rev older doc rev ≡ Some w → w.write.doc ≡ doc) → with_rev_or v (length older + 1) rev (write_of_rev older doc rev) ≡ Some w → w.write.doc ≡ doc
    go None p rest h = rest h
    go (Some v) p rest h = pick v (same_rev v.rev rev) p rest h

-- the winner's write is a write of the document
pub winner_names : (es : List Entry) (doc : List ℕ) (w : Write) → winning_write es doc ≡ Some w → w.doc ≡ doc
winner_names es doc w h = go (last_write es doc) refl h
  where
    pick : (l : Sequenced) (v : Option Sequenced) → last_write es doc ≡ Some l → write_of_rev es doc l.write.winner ≡ v → Some (write_or v l).write ≡ Some w → w.doc ≡ doc
    pick l None p q h = let same : l.write ≡ w = same_Some l.write w h in sym (ap (λ (x : Write). x.doc) same) ∙ last_names es doc l p
    pick l (Some v) p q h = let same : v.write ≡ w = same_Some v.write w h in sym (ap (λ (x : Write). x.doc) same) ∙ of_rev_names es doc l.write.winner v q

    go : (o : Option Sequenced) → last_write es doc ≡ o → winner_after es doc o ≡ Some w → w.doc ≡ doc
    go None p h = absurd (none-some _ h)
    go (Some l) p h = pick l (write_of_rev es doc l.write.winner) p refl h

-- a document's current state is of the winner's write
pub current_winner : (es : List Entry) (doc : List ℕ) (c : Current) → current es doc ≡ Some c → (winning : Sequenced) × (winning_write es doc ≡ Some winning.write) × (c ≡ current_by es c.seq winning)
current_winner es doc c h = go (last_write es doc) h
  where
    go : (o : Option Sequenced) → current_after es doc o ≡ Some c → (winning : Sequenced) × (winner_after es doc o ≡ Some winning.write) × (c ≡ current_by es c.seq winning)
    go None h = absurd (none-some _ h)
    go (Some l) h =
        let winning : Sequenced = winning_of es doc l in
        let P : Current → Type 0 = λ x. x ≡ current_by es x.seq winning in
        (winning, refl, subst P (same_Some (current_by es l.seq winning) c h) refl)
