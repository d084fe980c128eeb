-- what a board's calls do is a step of the world of the board and the numbers that are held
use Rattle.std.proofs.Common.{◌≡◌, ◌≢◌, ◌<◌, ℕ, Bool, true, false, true≢false, not, List, refl, sym, ap, subst, nat_eq}
use Rattle.std.proofs.lemmas.Bool.{eqb-true}
use Rattle.sg_history.specs.declared.entries.Entry.{Entry}
use Rattle.sg_history.specs.declared.entries.Entry.TheVariants as entry
use Rattle.sg_history.specs.declared.entries.Entry.TheVariants.{Unused}
use Rattle.sg_history.specs.Book.{IsAbove}
use Rattle.sg_history.specs.World.{Released, store, swap, IsHeld, MayStep, with_released, without_number, world_after}
use Rattle.doc_board.specs.declared.candidate.Candidate.{Candidate}
use Rattle.doc_board.specs.declared.candidate.Candidate.TheVariants as candidate
use Rattle.doc_board.specs.Candidates.{MayBeStored, entry_of, is_stale}
use Rattle.doc_board.specs.Lawful.{AreEntries}
use Rattle.doc_board.specs.State.{State, book_on, top_on, last_on}
use Rattle.doc_board.specs.Steps.{history_on, stored_at, swapped_to, world_on}
use Rattle.doc_board.proofs.Standing.{above_last, plain_is_above, tied_above}
use Rattle.doc_board.proofs.Tops.{none_above_top}

pub stored_step : (s now : State) (count number : ℕ) (held : List ℕ) (e : Entry) → history_on now ≡ stored_at s number e → world_after (world_on s count held) (store number e) ≡ world_on now count (without_number number held)
stored_step s now count number held e is =
    ap (λ (r : Released). with_released (world_on s count held) (without_number number held) r) (sym is)

pub swapped_step : (s now : State) (count spent number : ℕ) (held : List ℕ) (e : Entry) → history_on now ≡ swapped_to s spent number e
    → world_after (world_on s count held) (swap spent number e) ≡ world_on now count (without_number number (without_number spent held))
swapped_step s now count spent number held e is =
    ap (λ (r : Released). with_released (world_on s count held) (without_number number (without_number spent held)) r) (sym is)

fresh_base : (b : Bool) (base last : ℕ) → nat_eq base last ≡ b → not b ≡ false → base ≡ last
fresh_base true base last is h = eqb-true base last is
fresh_base false base last is h = absurd (true≢false h)

-- a candidate that is not stale stands above the entries to which it is tied, where none of them replaces the sync function
pub candidate_above : (s : State) (number : ℕ) (c : Candidate) → AreEntries (book_on s) → MayBeStored s number c → is_stale s c ≡ false → IsAbove (book_on s) number (entry_of c)
candidate_above s number (candidate.Write w tree base) entries may fresh =
    tied_above (book_on s) number (entry.Write w) entries refl
    (above_last (book_on s) (top_on s) number w (none_above_top s.log s.pending)
    (subst (λ (n : ℕ). n < number) (fresh_base (nat_eq base (last_on s w.doc)) base (last_on s w.doc) refl fresh) may.3))
candidate_above s number (candidate.Plain e) entries may fresh = plain_is_above (book_on s) number e may.1

pub may_store : (s : State) (count number : ℕ) (held : List ℕ) (c : Candidate) → IsHeld (world_on s count held) number → MayBeStored s number c → is_stale s c ≡ false → AreEntries (book_on s) → MayStep (world_on s count held) (store number (entry_of c))
may_store s count number held c is may fresh entries = (is, candidate_above s number c entries may fresh)

pub may_give_up : (s : State) (count number : ℕ) (held : List ℕ) → IsHeld (world_on s count held) number → MayStep (world_on s count held) (store number Unused)
may_give_up s count number held is = (is, plain_is_above (book_on s) number Unused (refl, refl))

pub may_swap : (s : State) (count spent number : ℕ) (held : List ℕ) (c : Candidate) → IsHeld (world_on s count held) spent → IsHeld (world_on s count held) number → spent ≢ number → MayBeStored s number c → is_stale s c ≡ false → AreEntries (book_on s) → MayStep (world_on s count held) (swap spent number (entry_of c))
may_swap s count spent number held c gone is apart may fresh entries = (gone, is, apart, candidate_above s number c entries may fresh)
