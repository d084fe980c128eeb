-- the first writes of the revisions of marks
use Rattle.std.proofs.Common.{◌≡◌, ℕ, refl, sym, ◌∙◌, ap, List, Option, Some, None}
use Rattle.std.proofs.lemmas.Option.{none-some, same_Some}
use Rattle.sg_names.specs.declared.rev_id.RevId.{RevId}
use Rattle.sg_history.specs.declared.entries.Entry.{Entry}
use Rattle.sg_history.specs.Current.{Sequenced, write_of_rev}
use Rattle.log_index.specs.declared.tables.Tables.{Tables}
use Rattle.log_index.specs.Places.{revision_seq, seq_alone}
use Rattle.log_index.specs.Representation.{HasPlaces, first_in, first_rev}
use Rattle.log_index.proofs.FirstRevisions.{Writes, last_writes, never_written}

-- a revision that was never written
pub no_first : (es : List Entry) (doc : List ℕ) (rev : RevId) → revision_seq es doc rev ≡ None → None ≡ first_rev es doc rev
no_first es doc rev h = by (write_of_rev es doc rev) refl h
  where
    by : (o : Option Sequenced) → write_of_rev es doc rev ≡ o → seq_alone o ≡ None → None ≡ first_rev es doc rev
    by None at h = sym (never_written es doc rev at)
    by (Some s) at h = absurd (none-some s.seq (sym h))

-- a revision that was written at a sequence
pub some_first : (tables : Tables) (es : List Entry) (doc : List ℕ) (rev : RevId) (seq : ℕ) → HasPlaces tables es → revision_seq es doc rev ≡ Some seq
    → Some (first_in tables.repeats seq) ≡ first_rev es doc rev
some_first tables es doc rev seq is h = by (write_of_rev es doc rev) refl h
  where
    by : (o : Option Sequenced) → write_of_rev es doc rev ≡ o → seq_alone o ≡ Some seq → Some (first_in tables.repeats seq) ≡ first_rev es doc rev
    by None at h = absurd (none-some seq h)
    by (Some s) at h =
        let last : Writes es doc rev s.seq = last_writes es doc rev s at in
        ap (λ (n : ℕ). Some (first_in tables.repeats n)) (sym (same_Some s.seq seq h))
        ∙ is.repeats s.seq last.write last.at
        ∙ ap (λ (d : List ℕ). first_rev es d last.write.rev) last.doc_is
        ∙ ap (λ (r : RevId). first_rev es doc r) last.rev_is
