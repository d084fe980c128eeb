-- what a new board keeps
use Rattle.std.proofs.Common.{◌≡◌, ℕ, zero, suc, List, [], map, Option, None, refl, sym, subst, arith}
use Rattle.std.specs.Prelude.{MatchOption}
use Rattle.std.specs.BTreeMap.{get_by_text}
use Rattle.std.proofs.lemmas.Option.{none-some}
use Rattle.sg_history.specs.declared.entries.Entry.{Entry}
use Rattle.sg_history.specs.declared.book.Waiting.{Waiting}
use Rattle.sg_history.specs.declared.room.RoomFor.{RoomFor}
use Rattle.sg_history.specs.EntryList as entries
use Rattle.sg_history.specs.Book.{book_with, writes_up_to}
use Rattle.sg_history.specs.Current.{Sequenced}
use Rattle.pending_front.specs.Pending.{Reserved}
use Rattle.rev_tree.specs.Documents.{recorded}
use Rattle.rev_tree.specs.Writes.{AreAccepted}
use Rattle.doc_board.specs.declared.document.Document.{Document}
use Rattle.doc_board.specs.Kept.{AreRight, IsBoard, document_with}
use Rattle.doc_board.proofs.Documents.{Documents}

no_writes : (top : ℕ) (doc : List ℕ) → writes_up_to (book_with [] []) top doc ≡ []
no_writes zero doc = refl
no_writes (suc k) doc = no_writes k doc

none_right : AreRight (book_with [] [])
none_right zero e is = absurd (none-some e is)
none_right (suc k) e is = absurd (none-some e is)

empty_with : (documents : Documents) (log_spare left : ℕ) (bases : ℕ → Option ℕ) (spare : ℕ) → ((doc : List ℕ) → get_by_text documents doc ≡ None) → IsBoard (record { list = []; spare = log_spare }) (record { waiting = []; spare = left }) documents bases spare [] 0
empty_with documents log_spare left bases spare none = record {
  standing = record {
    kept = record {
      documents = λ top over doc.
          let ws : List Sequenced = writes_up_to (book_with [] []) top doc in
          subst (λ (o : Option Document). MatchOption o (ws ≡ []) (λ kept. kept ≡ document_with ws)) (sym (none doc)) (no_writes top doc);
      accepted = λ top over doc. subst (λ (ws : List Sequenced). AreAccepted (map (λ written. recorded written.write) ws)) (sym (no_writes top doc)) tt;
      right = none_right;
    };
    beyond = λ place least low. refl;
    based = λ number e w least waits is. absurd (none-some _ waits);
    out = refl;
    room_waiting = omega arith;
    room_log = omega arith;
    room_bases = omega arith;
    limit = omega arith;
    bytes = omega arith;
  };
  next = refl;
}

pub empty_board : (log : entries.EntryList) (p : Reserved) (documents : Documents) (bases : ℕ → Option ℕ) (spare : ℕ) (rooms : List RoomFor) → log.list ≡ [] → p.waiting ≡ [] → rooms ≡ [] → ((doc : List ℕ) → get_by_text documents doc ≡ None) → IsBoard log p documents bases spare rooms 0
empty_board log p documents bases spare rooms no_log none_waits none_out none =
    subst (λ (es : List Entry). IsBoard (record { list = es; spare = log.spare }) p documents bases spare rooms 0) (sym no_log)
    (subst (λ (ws : List Waiting). IsBoard (record { list = []; spare = log.spare }) (record { waiting = ws; spare = p.spare }) documents bases spare rooms 0) (sym none_waits)
    (subst (λ (rs : List RoomFor). IsBoard (record { list = []; spare = log.spare }) (record { waiting = []; spare = p.spare }) documents bases spare rs 0) (sym none_out)
    (empty_with documents log.spare p.spare bases spare none)))
