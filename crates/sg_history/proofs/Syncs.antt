-- replacements of the sync function in later books
use Rattle.std.proofs.Common.{◌≡◌, ℕ, zero, suc, ◌≤◌, Bool, true, false, ◌&&◌, ◌||◌, List, refl, sym, ap, ◌∙◌, arith, Option, Some, None}
use Rattle.std.specs.Prelude.{is_some}
use Rattle.std.proofs.lemmas.Option.{none-some}
use Rattle.sg_history.specs.declared.entries.Entry.{Entry}
use Rattle.sg_history.specs.History.{SyncEntry, as_sync, as_write, is_sync, is_write}
use Rattle.sg_history.specs.Book.{Book, IsLastSync, Keeps, Later, SequencedSync, first_sync, last_sync_up_to, replaced_in, same_written, sync_at, sync_before, syncs_up_to, tied}
use Rattle.sg_history.proofs.Books.{tied_above}

both_replace : (x w v : Bool) → (x || (true && (v || true)) || (w && true)) ≡ true
both_replace true w v = refl
both_replace false w true = refl
both_replace false w false = refl

tied_syncs : (a b : Entry) (s t : SyncEntry) → as_sync a ≡ Some s → as_sync b ≡ Some t → tied a b ≡ true
tied_syncs a b s t h g =
    let one : is_sync a ≡ true = ap (λ (o : Option SyncEntry). is_some o) h in
    let other : is_sync b ≡ true = ap (λ (o : Option SyncEntry). is_some o) g in
    (λ i. same_written (as_write a) (as_write b) || (one i && (is_write b || other i)) || (is_write a && other i))
    ∙ both_replace (same_written (as_write a) (as_write b)) (is_write a) (is_write b)

sync_kept : (earlier later : Book) (number : ℕ) (s : SyncEntry) → Keeps earlier later → sync_at earlier number ≡ Some s → sync_at later number ≡ Some s
sync_kept earlier later number s keeps h = go (earlier number) refl h
  where
    go : (o : Option Entry) → earlier number ≡ o → replaced_in o ≡ Some s → sync_at later number ≡ Some s
    go None is g = absurd (none-some _ g)
    go (Some e) is g = ap (λ (o : Option Entry). replaced_in o) (keeps number e is) ∙ g

-- up to the last replacement the replacements stay as they were
pub same_syncs : (earlier later : Book) (last : SequencedSync) → Later earlier later → IsLastSync earlier last → (number : ℕ) → number ≤ last.seq
    → syncs_up_to later number ≡ syncs_up_to earlier number
same_syncs earlier later last is_later is_last zero low = refl
same_syncs earlier later last is_later is_last (suc number) low =
    let older = same_syncs earlier later last is_later is_last number (omega arith) in
    let here = same (sync_at earlier (suc number)) refl in
    λ i. sync_before (here i) (suc number) (older i)
  where
    none : (o : Option SyncEntry) → sync_at later (suc number) ≡ o → sync_at earlier (suc number) ≡ None → sync_at later (suc number) ≡ None
    none None is h = is
    none (Some t) is h =
        absurd (omega (arith, low, tied_above earlier later (λ (o : Option Entry). replaced_in o) is_later refl tied_syncs last.seq (suc number) last.sync t is_last.there h is))

    same : (o : Option SyncEntry) → sync_at earlier (suc number) ≡ o → sync_at later (suc number) ≡ sync_at earlier (suc number)
    same None h = none (sync_at later (suc number)) refl h ∙ sym h
    same (Some s) h = sync_kept earlier later (suc number) s is_later.kept h ∙ sym h

last_up_to : (book : Book) (last : SequencedSync) → IsLastSync book last → last_sync_up_to book last.seq ≡ Some last
last_up_to book last is = go last.seq refl
  where
    go : (n : ℕ) → last.seq ≡ n → last_sync_up_to book n ≡ Some last
    go zero at = absurd (omega (arith, is.number, at))
    go (suc n) at =
        ap (λ (o : Option SyncEntry). first_sync (sync_before o (suc n) (syncs_up_to book n))) (ap (λ (k : ℕ). sync_at book k) (sym at) ∙ is.there)
        ∙ (λ i. Some (record { seq = sym at i; sync = last.sync }))

-- in a later book that is still the last replacement up to its number
pub same_last_sync : (earlier later : Book) (last : SequencedSync) → Later earlier later → IsLastSync earlier last → last_sync_up_to later last.seq ≡ Some last
same_last_sync earlier later last is_later is =
    ap (λ (l : List SequencedSync). first_sync l) (same_syncs earlier later last is_later is last.seq (omega arith)) ∙ last_up_to earlier last is
