-- boards at which nothing waits
use Rattle.std.proofs.Common.{◌≡◌, ◌<◌, ◌+◌, ◌++◌, ◌∙◌, ℕ, Bool, List, [], ◌∷◌, length, Option, Some, None, refl, ap, arith, if◌then◌else◌}
use Rattle.std.proofs.Math.Path.{fun_ext}
use Rattle.std.proofs.lemmas.Bool.{eq-eqb}
use Rattle.sg_history.specs.declared.book.Waiting.{Waiting}
use Rattle.sg_history.specs.declared.entries.Entry.{Entry}
use Rattle.sg_history.specs.Book.{Book, book_of, book_with, entry_or}
use Rattle.sg_history.specs.World.{release, put_waiting}
use Rattle.pending_front.specs.Storing.{MayStore}
use Rattle.doc_board.specs.State.{State, book_on, last_on, top_of, top_on}
use Rattle.doc_board.specs.Steps.{stored_at}
use Rattle.doc_board.proofs.Standing.{last_low}
use Rattle.doc_board.proofs.Steps.{past_log}

nothing_else : (o : Option Entry) → entry_or o None ≡ o
nothing_else None = refl
nothing_else (Some e) = refl

pub alone_book : (s : State) → s.pending ≡ [] → book_on s ≡ book_of s.log
alone_book s alone = ap (λ (ws : List Waiting). book_with s.log ws) alone ∙ fun_ext (λ number. nothing_else (book_of s.log number))

pub alone_next : (s : State) → s.pending ≡ [] → MayStore s.log s.pending (length s.log + 1)
alone_next s alone = (omega arith, ap (λ (b : Book). b (length s.log + 1)) (alone_book s alone) ∙ past_log s.log (length s.log + 1) (omega arith))

pub alone_above : (s : State) (doc : List ℕ) → s.pending ≡ [] → last_on s doc < length s.log + 1
alone_above s doc alone =
    let low = last_low (book_on s) (top_on s) doc in
    let top : top_on s ≡ top_of s.log [] = ap (λ (ws : List Waiting). top_of s.log ws) alone in
    omega (arith, low, top)

put_alone : (log : List Entry) (number : ℕ) (e : Entry) → number ≡ length log + 1 → release log (put_waiting (record { number = number; entry = e }) []) ≡ record { log = log ++ e ∷ []; pending = [] }
put_alone log number e next =
    ap (λ (b : Bool). if b then release (log ++ e ∷ []) [] else record { log = log; pending = record { number = number; entry = e } ∷ [] }) (eq-eqb number (length log + 1) next)

pub alone_stored : (s : State) (number : ℕ) (e : Entry) → s.pending ≡ [] → number ≡ length s.log + 1 → stored_at s number e ≡ record { log = s.log ++ e ∷ []; pending = [] }
alone_stored s number e alone next =
    ap (λ (ws : List Waiting). release s.log (put_waiting (record { number = number; entry = e }) ws)) alone ∙ put_alone s.log number e next
