-- what a board keeps of a log that was recorded
use Rattle.std.proofs.Common.{◌≡◌, ◌∙◌, ℕ, List, [], ◌∷◌, map, length, reverse, Option, Some, None, refl, sym, ap, subst, arith}
use Rattle.std.specs.Prelude.{MatchOption, min}
use Rattle.std.specs.BTreeMap.{get_by_text}
use Rattle.std.proofs.lemmas.Option.{none-some}
use Rattle.sg_history.specs.declared.entries.Entry.{Entry}
use Rattle.sg_history.specs.declared.room.RoomFor.{RoomFor}
use Rattle.sg_history.specs.EntryList as entries
use Rattle.sg_history.specs.Book.{book_of, book_with, entry_or, written_in, writes_up_to, first_write}
use Rattle.sg_history.specs.Current.{Sequenced}
use Rattle.sg_history.specs.History.{past}
use Rattle.pending_front.specs.Pending.{Reserved}
use Rattle.rev_tree.specs.Documents.{recorded, sequence_of, last_in, writes_of, last_at}
use Rattle.rev_tree.specs.Extension.{Recorded}
use Rattle.rev_tree.specs.Writes.{AreAccepted, tree_of}
use Rattle.doc_board.specs.declared.document.Document.{Document}
use Rattle.doc_board.specs.Boards.{bytes_stored}
use Rattle.doc_board.specs.Kept.{AreKept, HasNoneAbove, IsBoard, document_at, document_with}
use Rattle.doc_board.specs.Lawful.{AreLawful}
use Rattle.doc_board.specs.Recorded.{AreFollowing, IsFirstRefused}
use Rattle.doc_board.specs.declared.open.OpenFault.{OpenFault}
use Rattle.doc_board.specs.declared.open.OpenFault.TheVariants.{Bad, Memory}
use Rattle.doc_board.proofs.Documents.{Documents}
use Rattle.doc_board.proofs.Histories.{SameOfRev, SameWrites, none_bad, right_log}
use Rattle.doc_board.proofs.OnBoards.{whole}
use Rattle.doc_board.proofs.Puts.{same_up_to, meets, no_write_where_none}
use Rattle.doc_board.proofs.Steps.{past_log}

-- what the law of histories says of the last write
abbrev pub SameLast : Type 0
SameLast = (h : List Entry) (number : ℕ) (doc : List ℕ) → last_in (book_of h) number doc ≡ last_at (past h number) doc

nothing_else : (o : Option Entry) → entry_or o None ≡ o
nothing_else None = refl
nothing_else (Some e) = refl

module _ (h : List Entry) (top : ℕ) (over : HasNoneAbove (book_with h []) top) (doc : List ℕ) where
  all_writes : writes_up_to (book_with h []) top doc ≡ writes_up_to (book_of h) (length h) doc
  all_writes =
      same_up_to (book_with h []) (book_of h) doc top (λ m least low. ap (λ (o : Option Entry). written_in o doc) (nothing_else (book_of h m)))
      ∙ meets (book_of h) doc top (length h) (λ m more. no_write_where_none (book_of h) doc m (sym (nothing_else (book_of h m)) ∙ over m more)) (λ m more. no_write_where_none (book_of h) doc m (past_log h m more))

  writes_are : SameWrites → map (λ written. recorded written.write) (writes_up_to (book_with h []) top doc) ≡ writes_of (reverse h) doc
  writes_are same = ap (λ (ws : List Sequenced). map (λ written. recorded written.write) ws) all_writes ∙ same h (length h) doc ∙ whole (λ es. writes_of es doc) h

  last_is : SameLast → sequence_of (first_write (writes_up_to (book_with h []) top doc)) ≡ last_at (reverse h) doc
  last_is same = ap (λ (ws : List Sequenced). sequence_of (first_write ws)) all_writes ∙ same h (length h) doc ∙ whole (λ es. last_at es doc) h

none_mapped : (ws : List Sequenced) → map (λ written. recorded written.write) ws ≡ [] → ws ≡ []
none_mapped [] h = refl
none_mapped (w ∷ ws) h = absurd (omega (arith, ap length h))

kept_by : (es : List Entry) (doc : List ℕ) (ws : List Sequenced) (found : Option Document) → map (λ written. recorded written.write) ws ≡ writes_of es doc → sequence_of (first_write ws) ≡ last_at es doc
    → MatchOption found (writes_of es doc ≡ []) (λ kept. kept ≡ document_at es doc) → MatchOption found (ws ≡ []) (λ kept. kept ≡ document_with ws)
kept_by es doc ws None writes last h = none_mapped ws (writes ∙ h)
kept_by es doc ws (Some k) writes last h =
    h ∙ ap (λ (n : ℕ). record { last = n; tree = tree_of (writes_of es doc) }) (sym last)
    ∙ ap (λ (rs : List Recorded). record { last = sequence_of (first_write ws); tree = tree_of rs }) (sym writes)

opened_with : SameWrites → SameLast → SameOfRev → (log : entries.EntryList) (documents : Documents) (left : ℕ) (bases : ℕ → Option ℕ) (spare stored : ℕ)
    → AreKept (reverse log.list) documents → ((doc : List ℕ) → AreAccepted (writes_of (reverse log.list) doc)) → AreFollowing (reverse log.list) → AreLawful (reverse log.list)
    → stored ≡ min (bytes_stored log.list) 18446744073709551615
    → IsBoard log (record { waiting = []; spare = left }) documents bases spare [] stored
opened_with same_writes same_last same_rev log documents left bases spare stored kept accepted following lawful bytes = record {
  standing = record {
    kept = record {
      documents = λ top over doc. kept_by (reverse log.list) doc (writes_up_to (book_with log.list []) top doc) (get_by_text documents doc) (writes_are log.list top over doc same_writes) (last_is log.list top over doc same_last) (kept doc);
      accepted = λ top over doc. subst AreAccepted (sym (writes_are log.list top over doc same_writes)) (accepted doc);
      right = right_log same_rev same_writes log.list lawful following;
    };
    beyond = λ place least low. refl;
    based = λ number e w least waits is. absurd (none-some _ waits);
    out = refl;
    room_waiting = omega arith;
    room_log = omega arith;
    room_bases = omega arith;
    limit = omega arith;
    bytes = omega (arith, bytes);
  };
  next = refl;
}

pub opened : SameWrites → SameLast → SameOfRev → (log : entries.EntryList) (documents : Documents) (p : Reserved) (bases : ℕ → Option ℕ) (spare stored : ℕ) (rooms : List RoomFor)
    → p.waiting ≡ [] → rooms ≡ []
    → AreKept (reverse log.list) documents → ((doc : List ℕ) → AreAccepted (writes_of (reverse log.list) doc)) → AreFollowing (reverse log.list) → AreLawful (reverse log.list)
    → stored ≡ min (bytes_stored log.list) 18446744073709551615
    → IsBoard log p documents bases spare rooms stored
opened same_writes same_last same_rev log documents p bases spare stored rooms none_waits none_out kept accepted following lawful bytes =
    subst (λ (ws : _). IsBoard log (record { waiting = ws; spare = p.spare }) documents bases spare rooms stored) (sym none_waits)
    (subst (λ (rs : List RoomFor). IsBoard log (record { waiting = []; spare = p.spare }) documents bases spare rs stored) (sym none_out)
    (opened_with same_writes same_last same_rev log documents p.spare bases spare stored kept accepted following lawful bytes))

-- a log that a board may have is refused for memory alone
pub memory_alone : (h : List Entry) (fault : OpenFault) → ((sequence : ℕ) → fault ≡ Bad sequence → IsFirstRefused h sequence) → AreFollowing (reverse h) → fault ≡ Memory
memory_alone h (Bad sequence) bad following = absurd (none_bad h sequence following (bad sequence refl))
memory_alone h Memory bad following = refl
