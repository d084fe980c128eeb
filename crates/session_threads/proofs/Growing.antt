-- logs that grow by an entry of each of a list, as far as they have room
use Rattle.std.proofs.Common.{◌≡◌, ◌≤◌, ◌<◌, ◌+◌, ℕ, Bool, true, false, ◌||◌, zero, suc, List, [], ◌∷◌, ◌++◌, append-nil, length, take, Some, None, refl, sym, ap, ◌∙◌, subst, arith, nat_le, nat_lt, if◌then◌else◌}
use Rattle.std.specs.Prelude.{IsTrue}
use Rattle.std.proofs.Math.Seq.{take-append_seam}
use Rattle.std.proofs.lemmas.Bool.{le-ltb, leb-true, leb-false, false≢true}
use Rattle.std.proofs.lemmas.List.{append_assoc, length-append}
use Rattle.sg_history.specs.declared.entries.Entry.{Entry}
use Rattle.sg_history.specs.History.{as_write}
use Rattle.principals.specs.declared.command.Command.{Command}
use Rattle.principals.specs.declared.command.Command.TheVariants as command
use Rattle.principals.specs.Script.{entry_of}
use Rattle.doc_board.specs.declared.candidate.NoRoom.{NoRoom}
use Rattle.doc_board.specs.declared.candidate.NoRoom.TheVariants.{LogFull509}
use Rattle.doc_board.specs.declared.outcome.Outcome.{Outcome}
use Rattle.doc_board.specs.declared.outcome.Outcome.TheVariants as outcome
use Rattle.doc_board.specs.Boards.{board_of, body_size, bytes_on, bytes_stored}
use Rattle.doc_board.specs.Limits.{refusal}
use Rattle.session_threads.specs.Opening.{AreOf}
use Rattle.session_threads.specs.Opened.{IsCommandRun, alone}
use Rattle.session_threads.specs.Opened.{IsGrownByAll, IsOpened, is_taken}

are_more : {X : Type 0} (IsOf : X → Entry → Type 0) (xs : List X) (es : List Entry) (x : X) (e : Entry) → AreOf IsOf xs es → IsOf x e → AreOf IsOf (xs ++ x ∷ []) (es ++ e ∷ [])
are_more IsOf [] [] x e are is = (is, tt)
are_more IsOf (y ∷ xs) (f ∷ es) x e (first, are) is = (first, are_more IsOf xs es x e are is)
are_more IsOf [] (f ∷ es) x e are is = absurd are
are_more IsOf (y ∷ xs) [] x e are is = absurd are

-- ---- lists that are cut

-- a list that was cut, and is cut again with more behind it
pub cut_again : (n : ℕ) (xs ys : List Entry) → take n (take n xs ++ ys) ≡ take n (xs ++ ys)
cut_again zero xs ys = refl
cut_again (suc n) [] ys = refl
cut_again (suc n) (x ∷ xs) ys = ap (λ (l : List Entry). x ∷ l) (cut_again n xs ys)

pub short_whole : (n : ℕ) (xs : List Entry) → length xs ≤ n → take n xs ≡ xs
short_whole zero [] h = refl
short_whole zero (x ∷ xs) h = absurd (omega (arith, h))
short_whole (suc n) [] h = refl
short_whole (suc n) (x ∷ xs) h = ap (λ (l : List Entry). x ∷ l) (short_whole n xs (omega (arith, h)))

-- one more at the end
pub grown_more : {X : Type 0} (IsOf : X → Entry → Type 0) (xs : List X) (before middle after : List Entry) (x : X) (e : Entry) → IsGrownByAll IsOf xs before middle → IsOf x e → after ≡ take 3999999 (middle ++ e ∷ []) → IsGrownByAll IsOf (xs ++ x ∷ []) before after
grown_more IsOf xs before middle after x e (added, are, grown) is more = (
  added ++ e ∷ [],
  are_more IsOf xs added x e are is,
  more ∙ ap (λ (l : List Entry). take 3999999 (l ++ e ∷ [])) grown ∙ cut_again 3999999 (before ++ added) (e ∷ [])
      ∙ ap (λ (l : List Entry). take 3999999 l) (append_assoc before added (e ∷ [])),
)

-- none as yet
pub grown_none : {X : Type 0} (IsOf : X → Entry → Type 0) (log : List Entry) → IsOpened log → IsGrownByAll IsOf [] log log
grown_none IsOf log opened = ([], tt, sym (ap (λ (l : List Entry). take 3999999 l) (append-nil log) ∙ short_whole 3999999 log opened.few))

-- ---- a log with room for an entry without a body

-- with none of these, the second may come first
either_says : (a b : Bool) (x y : NoRoom) → b ≡ false → (if a || b then Some x else None) ≡ Some y → a ≡ true
either_says true b x y off is = refl
either_says false true x y off is = absurd (false≢true (sym off))
either_says false false x y off is = absurd cc

neither_says : (a b : Bool) (x : NoRoom) → (if a || b then Some x else None) ≡ None → a ≡ false
neither_says true b x is = absurd cc
neither_says false b x is = refl

has_room : (before : List Entry) → refusal (board_of (alone before)) 0 ≡ None → length before < 3999999
has_room before none =
    omega (arith, leb-false 3999999 (length before + 0) (neither_says (nat_le 3999999 (length before + 0)) (nat_lt 2147483648 (bytes_on (alone before) + 0)) _ none))

is_full : (before : List Entry) (entries bytes : ℕ) → IsOpened before → refusal (board_of (alone before)) 0 ≡ Some (LogFull509 entries bytes) → 3999999 ≡ length before
is_full before entries bytes opened full =
    let few : nat_lt 2147483648 (bytes_on (alone before) + 0) ≡ false = le-ltb 2147483648 (bytes_on (alone before) + 0) (omega (arith, opened.bodies)) in
    omega (arith, opened.few, leb-true 3999999 (length before + 0) (either_says (nat_le 3999999 (length before + 0)) (nat_lt 2147483648 (bytes_on (alone before) + 0)) _ _ few full))

stored_log : (before after : List Entry) (c : Command) (sequence at : ℕ) → IsCommandRun before (entry_of c) (outcome.Stored sequence at) after → after ≡ take 3999999 (before ++ entry_of c ∷ [])
stored_log before after c sequence at run =
    run.board.log ∙ sym (short_whole 3999999 (before ++ entry_of c ∷ []) (omega (arith, length-append before (entry_of c ∷ []), has_room before run.limits)))

full_log : (before after : List Entry) (c : Command) (at entries bytes : ℕ) → IsOpened before → IsCommandRun before (entry_of c) (outcome.LogFull509 at entries bytes) after → after ≡ take 3999999 (before ++ entry_of c ∷ [])
full_log before after c at entries bytes opened run =
    run.board.0.log ∙ sym (ap (λ (n : ℕ). take n (before ++ entry_of c ∷ [])) (is_full before entries bytes opened run.limits) ∙ take-append_seam before (entry_of c ∷ []))

-- ---- no body comes to it

no_body : (c : Command) → body_size (as_write (entry_of c)) ≡ 0
no_body (command.PutUser name channels roles) = refl
no_body (command.PutRole name channels) = refl
no_body (command.DropUser name) = refl
no_body (command.DropRole name) = refl

bytes_more : (es : List Entry) (e : Entry) → bytes_stored (es ++ e ∷ []) ≡ bytes_stored es + body_size (as_write e)
bytes_more [] e = omega arith
bytes_more (x ∷ es) e = omega (arith, bytes_more es e)

opened_same : (before after : List Entry) → after ≡ before → IsOpened before → IsOpened after
opened_same before after same opened = subst (λ (log : List Entry). IsOpened log) (sym same) opened

opened_more : (before after : List Entry) (c : Command) → after ≡ before ++ entry_of c ∷ [] → length before < 3999999 → IsOpened before → IsOpened after
opened_more before after c more few opened = subst (λ (log : List Entry). IsOpened log) (sym more) (record {
  few = omega (arith, length-append before (entry_of c ∷ []), few);
  bodies = omega (arith, bytes_more before (entry_of c), no_body c, opened.bodies);
})

pub still_opened : (before after : List Entry) (c : Command) (answer : Outcome) → IsOpened before → IsCommandRun before (entry_of c) answer after → IsOpened after
still_opened before after c (outcome.Stored sequence at) opened run = opened_more before after c run.board.log (has_room before run.limits) opened
still_opened before after c (outcome.Full503 at places) opened run = opened_same before after run.board.0.log opened
still_opened before after c (outcome.LogFull509 at entries bytes) opened run = opened_same before after run.board.0.log opened
still_opened before after c outcome.Memory507 opened run = opened_same before after run.board.log opened
still_opened before after c (outcome.Bad400 field) opened run = absurd run.board
still_opened before after c (outcome.TooLarge413 bytes) opened run = absurd run.board
still_opened before after c (outcome.UserGone401 at) opened run = absurd run.board
still_opened before after c (outcome.Known at) opened run = absurd run.board
still_opened before after c (outcome.BadHistory400 at) opened run = absurd run.board
still_opened before after c (outcome.Conflict409 at leaf) opened run = absurd run.board
still_opened before after c (outcome.Denied403 at rule) opened run = absurd run.board

pub taken_log : (before after : List Entry) (c : Command) (answer : Outcome) → IsOpened before → IsCommandRun before (entry_of c) answer after → IsTrue (is_taken answer) → after ≡ take 3999999 (before ++ entry_of c ∷ [])
taken_log before after c (outcome.Stored sequence at) opened run taken = stored_log before after c sequence at run
taken_log before after c (outcome.LogFull509 at entries bytes) opened run taken = full_log before after c at entries bytes opened run
taken_log before after c (outcome.Full503 at places) opened run taken = absurd (false≢true taken)
taken_log before after c outcome.Memory507 opened run taken = absurd (false≢true taken)
taken_log before after c (outcome.Bad400 field) opened run taken = absurd run.board
taken_log before after c (outcome.TooLarge413 bytes) opened run taken = absurd run.board
taken_log before after c (outcome.UserGone401 at) opened run taken = absurd run.board
taken_log before after c (outcome.Known at) opened run taken = absurd run.board
taken_log before after c (outcome.BadHistory400 at) opened run taken = absurd run.board
taken_log before after c (outcome.Conflict409 at leaf) opened run taken = absurd run.board
taken_log before after c (outcome.Denied403 at rule) opened run taken = absurd run.board
