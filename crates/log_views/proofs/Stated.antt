-- what is looked up of a document is what the history says
use Rattle.std.proofs.Common.{◌≡◌, ℕ, sym, ◌∙◌, ap, arith, List, length, reverse, Option, Some, None}
use Rattle.std.proofs.lemmas.List.{reverse-reverse}
use Rattle.std.specs.Prelude.{option_map}
use Rattle.std.proofs.lemmas.Option.{none-some, same_Some}
use Rattle.sg_history.specs.declared.entries.Entry.{Entry}
use Rattle.sg_history.specs.declared.entries.Write.{Write}
use Rattle.sg_history.specs.Current.{Effects, Sequenced, effects_of, winning_of, write_alone, current, current_after, current_of}
use Rattle.log_index.specs.declared.marks.Marked.{Marked}
use Rattle.log_index.specs.Marks.{effects_by, marked_after, marked_up_to}
use Rattle.log_index.specs.declared.documents.Document.{Document}
use Rattle.log_index.specs.Places.{document_at}
use Rattle.log_views.specs.At.{write_at}
use Rattle.log_views.specs.States.{since_by, since_in, winning}
use Rattle.log_views.proofs.MarksRead.{GivesEffects, marked_whole}
use Rattle.log_views.proofs.Placed.{found, winner_read, nothing}

module _ (entries : List Entry) (doc : List ℕ) where
  pub none_current : document_at (reverse entries) doc ≡ None → None ≡ current (reverse entries) doc
  none_current h = sym (ap (λ (o : Option Sequenced). current_after (reverse entries) doc o) (nothing (reverse entries) doc h))

  pub none_winner : document_at (reverse entries) doc ≡ None → None ≡ write_alone (winning (reverse entries) doc)
  none_winner h = sym (ap (λ (o : Option Sequenced). write_alone (option_map (winning_of (reverse entries) doc) o)) (nothing (reverse entries) doc h))

  pub none_since : document_at (reverse entries) doc ≡ None → None ≡ since_in (reverse entries) (winning (reverse entries) doc)
  none_since h = sym (ap (λ (o : Option Sequenced). since_in (reverse entries) (option_map (winning_of (reverse entries) doc) o)) (nothing (reverse entries) doc h))

  module _ (d : Document) (at : document_at (reverse entries) doc ≡ Some d) where
    pub no_write : write_at entries d.winning ≡ None → ⊥
    no_write none = none-some _ (sym none ∙ winner_read entries doc d (found (reverse entries) doc d at))

    module _ (w : Write) (read : write_at entries d.winning ≡ Some w) where
      one : (winning_of (reverse entries) doc (found (reverse entries) doc d at).last).write ≡ w
      one = same_Some _ w (sym (winner_read entries doc d (found (reverse entries) doc d at)) ∙ read)

      -- the winner's write, with its sequence
      won : winning_of (reverse entries) doc (found (reverse entries) doc d at).last ≡ record { seq = d.winning; write = w }
      won = λ i. record { seq = sym (found (reverse entries) doc d at).winning i; write = one i }

      marked_is : marked_up_to (reverse entries) d.winning (length (reverse entries)) ≡ marked_after (reverse entries) (record { seq = d.winning; write = w })
      marked_is =
          let f = found (reverse entries) doc d at in
          marked_whole (reverse entries) d.winning w (omega (arith, f.at.low, f.winning)) (ap (λ (es : List Entry). write_at es d.winning) (reverse-reverse entries) ∙ read)

      effects_are : GivesEffects → effects_by (reverse entries) (marked_up_to (reverse entries) d.winning (length (reverse entries))) w
          ≡ effects_of (reverse entries) (record { seq = d.winning; write = w })
      effects_are gives =
          ap (λ (o : Option Marked). effects_by (reverse entries) o w) marked_is
          ∙ sym (gives (reverse entries) (record { seq = d.winning; write = w }))

      pub some_current : GivesEffects → (e : Effects) → e ≡ effects_by (reverse entries) (marked_up_to (reverse entries) d.winning (length (reverse entries))) w
          → Some (current_of d.last w e) ≡ current (reverse entries) doc
      some_current gives e is =
          let f = found (reverse entries) doc d at in
          ap (λ (x : Effects). Some (current_of d.last w x)) (is ∙ effects_are gives)
          ∙ sym (
          ap (λ (o : Option Sequenced). current_after (reverse entries) doc o) f.last_is
          ∙ ap (λ (s : Sequenced). Some (current_of f.last.seq s.write (effects_of (reverse entries) s))) won
          ∙ ap (λ (n : ℕ). Some (current_of n w (effects_of (reverse entries) (record { seq = d.winning; write = w })))) (sym f.seq))

      pub some_since : (n : ℕ) → n ≡ since_by (marked_up_to (reverse entries) d.winning (length (reverse entries))) d.winning
          → Some n ≡ since_in (reverse entries) (winning (reverse entries) doc)
      some_since n is =
          let f = found (reverse entries) doc d at in
          ap (λ (k : ℕ). Some k) (is ∙ ap (λ (o : Option Marked). since_by o d.winning) marked_is)
          ∙ sym (
          ap (λ (o : Option Sequenced). since_in (reverse entries) (option_map (winning_of (reverse entries) doc) o)) f.last_is
          ∙ ap (λ (s : Sequenced). Some (since_by (marked_after (reverse entries) s) s.seq)) won)

      pub some_winner : Some w ≡ write_alone (winning (reverse entries) doc)
      some_winner =
          let f = found (reverse entries) doc d at in
          sym (
          ap (λ (o : Option Sequenced). write_alone (option_map (winning_of (reverse entries) doc) o)) f.last_is
          ∙ ap (λ (v : Write). Some v) one)
