-- what a board keeps with its places, step by step
use Rattle.std.proofs.Common.{◌≡◌, ◌≢◌, ◌≤◌, ◌<◌, ◌+◌, ◌*◌, ◌∙◌, ◌⊎◌, inl, inr, ℕ, zero, suc, Bool, true, false, true≢false, List, [], ◌∷◌, ◌++◌, length, Option, Some, None, refl, sym, ap, subst, arith, if◌then◌else◌}
use Rattle.std.proofs.Math.Path.{fun_ext}
use Rattle.std.specs.Prelude.{nat_eq, nat_lt, slice_get}
use Rattle.std.specs.BTreeMap.{get_by_text}
use Rattle.std.specs.Str.{bytes_eq}
use Rattle.std.proofs.lemmas.Bool.{cases_eq, cases_lt, eq-eqb, ne_eqb}
use Rattle.std.proofs.lemmas.List.{length-append}
use Rattle.std.proofs.lemmas.Option.{none-some, same_Some, slice_get_within}
use Rattle.sg_history.specs.declared.book.Waiting.{Waiting}
use Rattle.sg_history.specs.declared.entries.Entry.{Entry}
use Rattle.sg_history.specs.declared.entries.Entry.TheVariants as entry
use Rattle.sg_history.specs.declared.entries.Write.{Write}
use Rattle.sg_history.specs.declared.room.RoomFor.{RoomFor}
use Rattle.sg_history.specs.EntryList as entries
use Rattle.sg_history.specs.Book.{Book, book_of, book_with, entry_or, waiting_at, writes_up_to, first_write}
use Rattle.sg_history.specs.History.{as_write, is_write}
use Rattle.sg_history.specs.Journal.{IsEntry}
use Rattle.sg_history.specs.World.{Released, release, put_waiting}
use Rattle.sg_history.specs.Rooms.{without_room}
use Rattle.pending_front.specs.Pending.{Reserved, AreBeyond}
use Rattle.pending_front.specs.Storing.{MayStore}
use Rattle.rev_tree.specs.declared.tree.Node.{Node}
use Rattle.rev_tree.specs.Documents.{sequence_of, last_in, tree_in}
use Rattle.doc_board.specs.Boards.{body_size, bytes_stored, bytes_waiting}
use Rattle.doc_board.specs.Candidates.{ExtendsTree, IsPlain}
use Rattle.doc_board.specs.Kept.{AreBases, HasNoneAbove, IsBoard, IsKept, IsStanding, below, capped, has_place, placed}
use Rattle.doc_board.specs.Recorded.{HasDocument}
use Rattle.doc_board.specs.State.{top_of}
use Rattle.doc_board.specs.Rooms.{is_outstanding}
use Rattle.doc_board.proofs.Documents.{Documents}
use Rattle.doc_board.proofs.Lawful.{SameRevisions, SameWinner}
use Rattle.doc_board.proofs.OutstandingRooms.{all_without, one_less, places_stay, all_placed, all_with}
use Rattle.doc_board.proofs.Places.{place_by}
use Rattle.doc_board.proofs.Standing.{put_length, put_bytes, released_bytes, no_size, bases_more, plain_above, plain_none, kept_plain, kept_write, base_is, above_last, none_before, same_writes}
use Rattle.doc_board.proofs.Puts.{meets, no_write_where_none}
use Rattle.doc_board.proofs.Tops.{none_above_top}

abbrev Bases : Type 0
Bases = ℕ → Option ℕ

-- what the law of storing says
abbrev pub StoredBook : Type 0
StoredBook = (log : List Entry) (waiting : List Waiting) (number : ℕ) (e : Entry) (other : ℕ) → MayStore log waiting number
    → book_with log (put_waiting (record { number = number; entry = e }) waiting) other ≡ (if nat_eq number other then Some e else book_with log waiting other)

abbrev pub StoredBeyond : Type 0
StoredBeyond = (log : List Entry) (waiting : List Waiting) (number : ℕ) (e : Entry) → MayStore log waiting number → AreBeyond log waiting
    → AreBeyond log (put_waiting (record { number = number; entry = e }) waiting)

abbrev pub StoredFree : Type 0
StoredFree = (log : List Entry) (waiting : List Waiting) (number : ℕ) → MayStore log waiting number → waiting_at waiting number ≡ None

-- ---- what waits under a number

waits_case : (f : Waiting) (fs more : List Waiting) (w : Waiting) (m : ℕ) (b : Bool) → nat_eq f.number m ≡ b → f.number ≢ w.number → waiting_at more m ≡ (if nat_eq w.number m then Some w.entry else waiting_at fs m)
    → (if b then Some f.entry else waiting_at more m) ≡ (if nat_eq w.number m then Some w.entry else (if b then Some f.entry else waiting_at fs m))
waits_case f fs more w m true is apart rest = go (cases_eq f.number m) (cases_eq w.number m)
  where
    go : (f.number ≡ m) ⊎ (f.number ≢ m) → (w.number ≡ m) ⊎ (w.number ≢ m) → Some f.entry ≡ (if nat_eq w.number m then Some w.entry else Some f.entry)
    go (inl first) (inl second) = absurd (apart (first ∙ sym second))
    go (inr ne) second = absurd (true≢false (sym is ∙ ne_eqb f.number m ne))
    go (inl first) (inr ne) = sym (ap (λ (b : Bool). if b then Some w.entry else Some f.entry) (ne_eqb w.number m ne))
waits_case f fs more w m false is apart rest = rest

free_parts : (f : Waiting) (fs : List Waiting) (n : ℕ) → waiting_at (f ∷ fs) n ≡ None → (f.number ≢ n) × (waiting_at fs n ≡ None)
free_parts f fs n free = go (cases_eq f.number n)
  where
    go : (f.number ≡ n) ⊎ (f.number ≢ n) → (f.number ≢ n) × (waiting_at fs n ≡ None)
    go (inl same) = absurd (none-some _ (sym free ∙ ap (λ (b : Bool). if b then Some f.entry else waiting_at fs n) (eq-eqb f.number n same)))
    go (inr ne) = (ne, sym (ap (λ (b : Bool). if b then Some f.entry else waiting_at fs n) (ne_eqb f.number n ne)) ∙ free)

pub put_waits : (w : Waiting) (ws : List Waiting) (m : ℕ) → waiting_at ws w.number ≡ None → waiting_at (put_waiting w ws) m ≡ (if nat_eq w.number m then Some w.entry else waiting_at ws m)
put_waits w [] m free = refl
put_waits w (f ∷ fs) m free =
    let parts = free_parts f fs w.number free in
    go (nat_lt w.number f.number) (waits_case f fs (put_waiting w fs) w m (nat_eq f.number m) refl parts.0 (put_waits w fs m parts.1))
  where
    go : (b : Bool) → waiting_at (f ∷ put_waiting w fs) m ≡ (if nat_eq w.number m then Some w.entry else waiting_at (f ∷ fs) m)
        → waiting_at (if b then w ∷ f ∷ fs else f ∷ put_waiting w fs) m ≡ (if nat_eq w.number m then Some w.entry else waiting_at (f ∷ fs) m)
    go true rest = refl
    go false rest = rest

-- past a log its book has what waits
pub past_log : (log : List Entry) (number : ℕ) → length log < number → book_of log number ≡ None
past_log log zero more = absurd (omega (arith, more))
past_log log (suc k) more = go (slice_get log k) refl
  where
    go : (o : Option Entry) → slice_get log k ≡ o → o ≡ None
    go None is = refl
    go (Some e) is = absurd (omega (arith, more, slice_get_within log k e is))

pub waits_past : (log : List Entry) (ws : List Waiting) (number : ℕ) → length log < number → book_with log ws number ≡ waiting_at ws number
waits_past log ws number more = ap (λ (o : Option Entry). entry_or o (waiting_at ws number)) (past_log log number more)

-- what waits is in the book
waits_in_book : (log : List Entry) (ws : List Waiting) (m : ℕ) (x : Entry) → AreBeyond log ws → 1 ≤ m → waiting_at ws m ≡ Some x → book_with log ws m ≡ Some x
waits_in_book log ws m x beyond least is = go (cases_lt (length log) m)
  where
    go : (length log < m) ⊎ (m ≤ length log) → book_with log ws m ≡ Some x
    go (inl past) = waits_past log ws m past ∙ is
    go (inr low) = absurd (none-some _ (sym (beyond m least low) ∙ is))

-- ---- a room ends

pub ended : (log : entries.EntryList) (p : Reserved) (places : Documents) (bases : Bases) (spare : ℕ) (rooms : List RoomFor) (stored more : ℕ) (room : RoomFor)
    → is_outstanding rooms room ≡ true → IsStanding log p places bases spare rooms stored more → IsStanding log p places bases spare (without_room room rooms) stored (more + 2)
ended log p places bases spare rooms stored more room out it =
    let less = one_less room rooms out in
    record {
      kept = it.kept;
      beyond = it.beyond;
      based = it.based;
      out = all_without (λ r. has_place places r.doc) room rooms it.out;
      room_waiting = omega (arith, it.room_waiting, less);
      room_log = omega (arith, it.room_log, less);
      room_bases = omega (arith, it.room_bases, less);
      limit = omega (arith, it.limit, less);
      bytes = it.bytes;
    }

-- ---- an entry waits

capped_more : (a b size : ℕ) → b ≡ size + a → capped (capped a + size) ≡ capped b
capped_more a b size is = omega (arith, is)

module _ (stored_book : StoredBook) (stored_beyond : StoredBeyond) (stored_free : StoredFree) (log : entries.EntryList) (p : Reserved) (n : ℕ) (may : MayStore log.list p.waiting n) where
  abbrev pub with_it : Entry → List Waiting
  with_it e = put_waiting (record { number = n; entry = e }) p.waiting

  put_in : (e : Entry) (m : ℕ) → book_with log.list (with_it e) m ≡ (if nat_eq n m then Some e else book_with log.list p.waiting m)
  put_in e m = stored_book log.list p.waiting n e m may

  put_under : (e : Entry) (m : ℕ) → waiting_at (with_it e) m ≡ (if nat_eq n m then Some e else waiting_at p.waiting m)
  put_under e m = put_waits (record { number = n; entry = e }) p.waiting m (stored_free log.list p.waiting n may)

  long : (e : Entry) → length (with_it e) ≡ length p.waiting + 1
  long e = put_length (record { number = n; entry = e }) p.waiting

  bytes_with : (e : Entry) → bytes_stored log.list + bytes_waiting (with_it e) ≡ body_size (as_write e) + (bytes_stored log.list + bytes_waiting p.waiting)
  bytes_with e = omega (arith, put_bytes (record { number = n; entry = e }) p.waiting)

  plain_put : (places : Documents) (bases : Bases) (spare : ℕ) (rooms : List RoomFor) (stored more : ℕ) (e : Entry) (left : ℕ) → IsEntry e → IsPlain e → p.spare ≤ left + 1
      → IsStanding log p places bases spare rooms stored (more + 1) → IsStanding log (record { waiting = with_it e; spare = left }) places bases spare rooms stored more
  plain_put places bases spare rooms stored more e left named plain less it = record {
    kept = kept_plain (book_with log.list p.waiting) (book_with log.list (with_it e)) n e may.0 may.1 (put_in e) plain.0 places named plain.1 it.kept;
    beyond = stored_beyond log.list p.waiting n e may it.beyond;
    based = bases_more (book_with log.list p.waiting) (book_with log.list (with_it e)) n e may.0 may.1 (put_in e) (plain_above (book_with log.list p.waiting) n e plain.0)
        p.waiting (with_it e) bases bases (put_under e) (λ m ne. refl) (λ m x least is. waits_in_book log.list p.waiting m x it.beyond least is) (λ w is. absurd (plain_none (as_write e) plain.0 w is)) it.based;
    out = it.out;
    room_waiting = omega (arith, it.room_waiting, less);
    room_log = omega (arith, it.room_log, long e);
    room_bases = omega (arith, it.room_bases);
    limit = omega (arith, it.limit, long e);
    bytes = it.bytes ∙ ap capped (omega (arith, bytes_with e, no_size (as_write e) plain.0));
  }

  -- an entry that neither writes nor replaces the sync function
  pub waits_plain : (new : Reserved) (places : Documents) (bases : Bases) (spare : ℕ) (rooms : List RoomFor) (stored more : ℕ) (e : Entry) → IsEntry e → IsPlain e
      → new.waiting ≡ with_it e → p.spare ≤ new.spare + 1
      → IsStanding log p places bases spare rooms stored (more + 1) → IsStanding log new places bases spare rooms stored more
  waits_plain new places bases spare rooms stored more e named plain is less it =
      subst (λ (ws : List Waiting). IsStanding log (record { waiting = ws; spare = new.spare }) places bases spare rooms stored more) (sym is)
      (plain_put places bases spare rooms stored more e new.spare named plain less it)

  module _ (w : Write) (whole : ℕ) (over_whole : HasNoneAbove (book_with log.list p.waiting) whole) (past : last_in (book_with log.list p.waiting) whole w.doc < n) (tree : List Node) (extends : ExtendsTree (tree_in (book_with log.list p.waiting) whole w.doc) w tree) where
    write_put : SameRevisions → SameWinner → (before after : Documents) (bases bases_after : Bases) (spare spare_after : ℕ) (rooms : List RoomFor) (stored more : ℕ) (left : ℕ) → IsEntry (entry.Write w) → HasDocument w.body → w.at < n
        → ((name : List ℕ) → get_by_text after name ≡ (if bytes_eq w.doc name then Some (record { last = n; tree = tree }) else get_by_text before name))
        → ((m : ℕ) → bases_after m ≡ (if nat_eq n m then Some (last_in (book_with log.list p.waiting) whole w.doc) else bases m)) → spare ≤ spare_after + 1
        → p.spare ≤ left + 1
        → IsStanding log p before bases spare rooms stored (more + 1)
        → IsStanding log (record { waiting = with_it (entry.Write w); spare = left }) after bases_after spare_after rooms (capped (stored + length w.body)) more
    write_put same_revisions same_winner before after bases bases_after spare spare_after rooms stored more left named body judged set kept_base less_bases less it = record {
      kept = kept_write (book_with log.list p.waiting) (book_with log.list (with_it (entry.Write w))) n w may.0 may.1 (put_in (entry.Write w)) whole over_whole past tree extends same_revisions same_winner before after named body judged set it.kept;
      beyond = stored_beyond log.list p.waiting n (entry.Write w) may it.beyond;
      based = bases_more (book_with log.list p.waiting) (book_with log.list (with_it (entry.Write w))) n (entry.Write w) may.0 may.1 (put_in (entry.Write w)) (above_last (book_with log.list p.waiting) whole n w over_whole past)
          p.waiting (with_it (entry.Write w)) bases bases_after (put_under (entry.Write w))
          (λ m ne. kept_base m ∙ ap (λ (b : Bool). if b then Some (last_in (book_with log.list p.waiting) whole w.doc) else bases m) (ne_eqb n m ne))
          (λ m x least is. waits_in_book log.list p.waiting m x it.beyond least is) kept_here it.based;
      out = places_stay before after w.doc (record { last = n; tree = tree }) set rooms it.out;
      room_waiting = omega (arith, it.room_waiting, less);
      room_log = omega (arith, it.room_log, long (entry.Write w));
      room_bases = omega (arith, it.room_bases, less_bases);
      limit = omega (arith, it.limit, long (entry.Write w));
      bytes = ap (λ (k : ℕ). capped (k + length w.body)) it.bytes ∙ capped_more (bytes_stored log.list + bytes_waiting p.waiting) (bytes_stored log.list + bytes_waiting (with_it (entry.Write w))) (length w.body) (bytes_with (entry.Write w));
    }
      where
        kept_here : (v : Write) → Some w ≡ Some v → bases_after n ≡ Some (sequence_of (first_write (below (book_with log.list (with_it (entry.Write w))) n v.doc)))
        kept_here v same =
            subst (λ (y : Write). bases_after n ≡ Some (sequence_of (first_write (below (book_with log.list (with_it (entry.Write w))) n y.doc)))) (same_Some w v same)
            (kept_base n ∙ ap (λ (b : Bool). if b then Some (last_in (book_with log.list p.waiting) whole w.doc) else bases n) (eq-eqb n n refl)
            ∙ base_is (book_with log.list p.waiting) (book_with log.list (with_it (entry.Write w))) n w may.0 may.1 (put_in (entry.Write w)) whole over_whole past tree extends)

    -- a write
    pub waits_write : SameRevisions → SameWinner → (new : Reserved) (before after : Documents) (bases bases_after : Bases) (spare spare_after : ℕ) (rooms : List RoomFor) (stored stored_after more : ℕ) → IsEntry (entry.Write w) → HasDocument w.body → w.at < n
        → ((name : List ℕ) → get_by_text after name ≡ (if bytes_eq w.doc name then Some (record { last = n; tree = tree }) else get_by_text before name))
        → ((m : ℕ) → bases_after m ≡ (if nat_eq n m then Some (last_in (book_with log.list p.waiting) whole w.doc) else bases m)) → spare ≤ spare_after + 1
        → stored_after ≡ capped (stored + length w.body)
        → new.waiting ≡ with_it (entry.Write w) → p.spare ≤ new.spare + 1
        → IsStanding log p before bases spare rooms stored (more + 1)
        → IsStanding log new after bases_after spare_after rooms stored_after more
    waits_write same_revisions same_winner new before after bases bases_after spare spare_after rooms stored stored_after more named body judged set kept_base less_bases sum is less it =
        subst (λ (k : ℕ). IsStanding log new after bases_after spare_after rooms k more) (sym sum)
        (subst (λ (ws : List Waiting). IsStanding log (record { waiting = ws; spare = new.spare }) after bases_after spare_after rooms (capped (stored + length w.body)) more) (sym is)
        (write_put same_revisions same_winner before after bases bases_after spare spare_after rooms stored more new.spare named body judged set kept_base less_bases less it))

-- ---- those that come next are moved

pub moved : (log new_log : entries.EntryList) (p new : Reserved) (places : Documents) (bases bases_after : Bases) (spare spare_after : ℕ) (rooms : List RoomFor) (stored more : ℕ)
    → ◌≡◌ {A = Released} (record { log = new_log.list; pending = new.waiting }) (release log.list p.waiting)
    → book_with new_log.list new.waiting ≡ book_with log.list p.waiting → AreBeyond new_log.list new.waiting
    → length log.list ≤ length new_log.list
    → length new_log.list + length new.waiting ≡ length log.list + length p.waiting
    → p.spare ≤ new.spare
    → new_log.spare + length new_log.list ≡ log.spare + length log.list
    → ((m : ℕ) → length new_log.list < m → bases_after m ≡ bases m) → spare ≤ spare_after
    → IsStanding log p places bases spare rooms stored more → IsStanding new_log new places bases_after spare_after rooms stored more
moved log new_log p new places bases bases_after spare spare_after rooms stored more is book beyond longer count spares log_spares same_bases less it = record {
  kept = subst (λ (b : Book). IsKept b places) (sym book) it.kept;
  beyond = beyond;
  based = based;
  out = it.out;
  room_waiting = omega (arith, it.room_waiting, spares);
  room_log = omega (arith, it.room_log, count, log_spares);
  room_bases = omega (arith, it.room_bases, less);
  limit = omega (arith, it.limit, longer, count);
  bytes = it.bytes ∙ ap capped (sym (ap (λ (r : Released). bytes_stored r.log + bytes_waiting r.pending) is ∙ released_bytes log.list p.waiting));
}
  where
    based : AreBases (book_with new_log.list new.waiting) new.waiting bases_after
    based m e w least waits written = go (cases_lt (length new_log.list) m)
      where
        go : (length new_log.list < m) ⊎ (m ≤ length new_log.list) → bases_after m ≡ Some (sequence_of (first_write (below (book_with new_log.list new.waiting) m w.doc)))
        go (inl past) =
            let before : waiting_at p.waiting m ≡ Some e =
            sym (waits_past log.list p.waiting m (omega (arith, past, longer))) ∙ sym (ap (λ (b : Book). b m) book) ∙ waits_past new_log.list new.waiting m past ∙ waits in
            same_bases m past
            ∙ subst (λ (b : Book). bases m ≡ Some (sequence_of (first_write (below b m w.doc)))) (sym book) (it.based m e w least before written)
        go (inr low) = absurd (none-some _ (sym (beyond m least low) ∙ waits))

-- ---- a room is made

pub room_made : (log new_log : entries.EntryList) (p new : Reserved) (before after : Documents) (bases bases_after : Bases) (spare spare_after : ℕ) (rooms : List RoomFor) (room : RoomFor) (stored : ℕ)
    → new_log.list ≡ log.list → new.waiting ≡ p.waiting → bases_after ≡ bases
    → ((name : List ℕ) → get_by_text after name ≡ placed room.doc before name)
    → 2 * (length rooms + 1) ≤ new.spare → length p.waiting + 2 * (length rooms + 1) ≤ new_log.spare → 2 * (length rooms + 1) ≤ spare_after
    → length p.waiting + 2 * length rooms < 19999
    → IsStanding log p before bases spare rooms stored 0 → IsStanding new_log new after bases_after spare_after (rooms ++ room ∷ []) stored 0
room_made log new_log p new before after bases bases_after spare spare_after rooms room stored same_log same_waiting same_bases made waiting_room log_room base_room few it =
    subst (λ (es : List Entry). IsStanding (record { list = es; spare = new_log.spare }) new after bases_after spare_after (rooms ++ room ∷ []) stored 0) (sym same_log)
    (subst (λ (ws : List Waiting). IsStanding (record { list = log.list; spare = new_log.spare }) (record { waiting = ws; spare = new.spare }) after bases_after spare_after (rooms ++ room ∷ []) stored 0) (sym same_waiting)
    (subst (λ (b : Bases). IsStanding (record { list = log.list; spare = new_log.spare }) (record { waiting = p.waiting; spare = new.spare }) after b spare_after (rooms ++ room ∷ []) stored 0) (sym same_bases) made_so))
  where
    made_so : IsStanding (record { list = log.list; spare = new_log.spare }) (record { waiting = p.waiting; spare = new.spare }) after bases spare_after (rooms ++ room ∷ []) stored 0
    made_so =
        let long = length-append rooms (room ∷ []) in
        record {
          kept = record {
            documents = λ top over. place_by _ before after room.doc made (it.kept.documents top over);
            accepted = it.kept.accepted;
            right = it.kept.right;
          };
          beyond = it.beyond;
          based = it.based;
          out = all_with before after room rooms made it.out;
          room_waiting = omega (arith, waiting_room, long);
          room_log = omega (arith, log_room, long);
          room_bases = omega (arith, base_room, long);
          limit = omega (arith, few, long);
          bytes = it.bytes;
        }

-- more spare places, and perhaps a place of a document
pub spared : (log new_log : entries.EntryList) (p new : Reserved) (before after : Documents) (doc : Option (List ℕ)) (bases bases_after : Bases) (spare spare_after : ℕ) (rooms : List RoomFor) (stored : ℕ)
    → new_log.list ≡ log.list → new.waiting ≡ p.waiting → bases_after ≡ bases
    → ((name : List ℕ) → get_by_text after name ≡ placed doc before name)
    → log.spare ≤ new_log.spare → p.spare ≤ new.spare → spare ≤ spare_after
    → IsStanding log p before bases spare rooms stored 0 → IsStanding new_log new after bases_after spare_after rooms stored 0
spared log new_log p new before after doc bases bases_after spare spare_after rooms stored same_log same_waiting same_bases made log_room waiting_room base_room it =
    subst (λ (es : List Entry). IsStanding (record { list = es; spare = new_log.spare }) new after bases_after spare_after rooms stored 0) (sym same_log)
    (subst (λ (ws : List Waiting). IsStanding (record { list = log.list; spare = new_log.spare }) (record { waiting = ws; spare = new.spare }) after bases_after spare_after rooms stored 0) (sym same_waiting)
    (subst (λ (b : Bases). IsStanding (record { list = log.list; spare = new_log.spare }) (record { waiting = p.waiting; spare = new.spare }) after b spare_after rooms stored 0) (sym same_bases)
    (record {
      kept = record {
        documents = λ top over. place_by _ before after doc made (it.kept.documents top over);
        accepted = it.kept.accepted;
        right = it.kept.right;
      };
      beyond = it.beyond;
      based = it.based;
      out = all_placed before after doc made rooms it.out;
      room_waiting = omega (arith, it.room_waiting, waiting_room);
      room_log = omega (arith, it.room_log, log_room);
      room_bases = omega (arith, it.room_bases, base_room);
      limit = it.limit;
      bytes = it.bytes;
    })))

-- ---- fewer places more

pub fewer : (log : entries.EntryList) (p : Reserved) (places : Documents) (bases : Bases) (spare : ℕ) (rooms : List RoomFor) (stored more less : ℕ) → less ≤ more
    → IsStanding log p places bases spare rooms stored more → IsStanding log p places bases spare rooms stored less
fewer log p places bases spare rooms stored more less low it = record {
  kept = it.kept;
  beyond = it.beyond;
  based = it.based;
  out = it.out;
  room_waiting = omega (arith, it.room_waiting, low);
  room_log = omega (arith, it.room_log, low);
  room_bases = omega (arith, it.room_bases, low);
  limit = omega (arith, it.limit, low);
  bytes = it.bytes;
}

-- ---- what an entry that is no write leaves

module _ (stored_book : StoredBook) (log : List Entry) (waiting : List Waiting) (spent : ℕ) (may : MayStore log waiting spent) (e : Entry) (plain : is_write e ≡ false) where
  abbrev pub waits_too : List Waiting
  waits_too = put_waiting (record { number = spent; entry = e }) waiting

  pub may_still : (fresh : ℕ) → spent ≢ fresh → MayStore log waiting fresh → MayStore log waits_too fresh
  may_still fresh apart may_fresh =
      (may_fresh.0, stored_book log waiting spent e fresh may ∙ ap (λ (b : Bool). if b then Some e else book_with log waiting fresh) (ne_eqb spent fresh apart) ∙ may_fresh.1)

  pub writes_still : (doc : List ℕ) → writes_up_to (book_with log waits_too) (top_of log waits_too) doc ≡ writes_up_to (book_with log waiting) (top_of log waiting) doc
  writes_still doc =
      let old = book_with log waiting in
      let new = book_with log waits_too in
      let put = λ (m : ℕ). stored_book log waiting spent e m may in
      let over_new = none_above_top log waits_too in
      let over_old = none_before old new spent e may.0 may.1 put (plain_above old spent e plain) (top_of log waits_too) over_new in
      same_writes old new spent e may.0 may.1 put plain (top_of log waits_too) over_new doc
      ∙ meets old doc (top_of log waits_too) (top_of log waiting) (λ m more. no_write_where_none old doc m (over_old m more)) (λ m more. no_write_where_none old doc m (none_above_top log waiting m more))

-- ---- whole boards

next_still : (log new_log : List Entry) (waiting new_waiting : List Waiting) → new_log ≡ log → new_waiting ≡ waiting → waiting_at waiting (length log + 1) ≡ None → waiting_at new_waiting (length new_log + 1) ≡ None
next_still log new_log waiting new_waiting same_log same_waiting next =
    ap (λ (ws : List Waiting). waiting_at ws (length new_log + 1)) same_waiting ∙ ap (λ (es : List Entry). waiting_at waiting (length es + 1)) same_log ∙ next

pub board_spared : (log new_log : entries.EntryList) (p new : Reserved) (before after : Documents) (doc : Option (List ℕ)) (bases bases_after : Bases) (spare spare_after : ℕ) (rooms : List RoomFor) (stored : ℕ)
    → new_log.list ≡ log.list → new.waiting ≡ p.waiting → ((number : ℕ) → bases_after number ≡ bases number)
    → ((name : List ℕ) → get_by_text after name ≡ placed doc before name)
    → (log.spare ≤ new_log.spare) × (p.spare ≤ new.spare) × (spare ≤ spare_after)
    → IsBoard log p before bases spare rooms stored → IsBoard new_log new after bases_after spare_after rooms stored
board_spared log new_log p new before after doc bases bases_after spare spare_after rooms stored same_log same_waiting same_bases made spares it = record {
  standing = spared log new_log p new before after doc bases bases_after spare spare_after rooms stored same_log same_waiting (fun_ext same_bases) made spares.0 spares.1 spares.2 it.standing;
  next = next_still log.list new_log.list p.waiting new.waiting same_log same_waiting it.next;
}

pub board_with_room : (log new_log : entries.EntryList) (p new : Reserved) (before after : Documents) (bases bases_after : Bases) (spare spare_after : ℕ) (rooms : List RoomFor) (room : RoomFor) (stored : ℕ)
    → new_log.list ≡ log.list → new.waiting ≡ p.waiting → ((number : ℕ) → bases_after number ≡ bases number)
    → ((name : List ℕ) → get_by_text after name ≡ placed room.doc before name)
    → (2 * (length rooms + 1) ≤ new.spare) × (2 * (length rooms + 1) ≤ spare_after) × (length p.waiting + 2 * (length rooms + 1) ≤ new_log.spare)
    → length p.waiting + 2 * length rooms < 19999
    → IsBoard log p before bases spare rooms stored → IsBoard new_log new after bases_after spare_after (rooms ++ room ∷ []) stored
board_with_room log new_log p new before after bases bases_after spare spare_after rooms room stored same_log same_waiting same_bases made spares few it = record {
  standing = room_made log new_log p new before after bases bases_after spare spare_after rooms room stored same_log same_waiting (fun_ext same_bases) made spares.0 spares.2 spares.1 few it.standing;
  next = next_still log.list new_log.list p.waiting new.waiting same_log same_waiting it.next;
}
