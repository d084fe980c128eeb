-- books of histories, and later books
use Rattle.std.proofs.Common.{◌≡◌, ℕ, zero, suc, ◌+◌, ◌<◌, ◌≤◌, ◌≢◌, Bool, true, false, ◌||◌, List, [], ◌∷◌, ◌++◌, length, take, reverse, refl, sym, ap, ◌∙◌, subst, arith, Option, Some, None, IsTrue, if◌then◌else◌}
use Rattle.std.specs.Prelude.{slice_get}
use Rattle.std.specs.Str.{bytes_eq}
use Rattle.std.specs.Cmp.Lexicographic.{bytes_decides}
use Rattle.std.proofs.lemmas.Bool.{false≢true}
use Rattle.std.proofs.Math.Seq.{take-suc}
use Rattle.std.proofs.lemmas.List.{reverse-append, length-reverse, length-take-le, take_all}
use Rattle.std.proofs.lemmas.Option.{none-some, slice_get_within, get_or_from_slice_get}
use Rattle.sg_names.specs.declared.rev_id.RevId.{RevId}
use Rattle.sg_history.specs.declared.book.Waiting.{Waiting}
use Rattle.sg_history.specs.declared.entries.Entry.{Entry}
use Rattle.sg_history.specs.declared.entries.Write.{Write}
use Rattle.sg_history.specs.History.{past, Extends, as_write, of_document, write_to}
use Rattle.sg_history.specs.Current.{Sequenced, sequenced_before, writes_to, last_write, sequenced_or, write_of_rev, with_rev_or}
use Rattle.sg_history.specs.Book.{Book, book_of, waiting_at, entry_or, book_with, write_at, written_in, same_written, tied, Keeps, Later, IsLastWrite, writes_up_to, first_write, first_of_rev, last_write_up_to, write_of_rev_up_to}

-- what is kept is written as it was
write_kept : (earlier later : Book) (doc : List ℕ) (number : ℕ) (w : Write) → Keeps earlier later → write_at earlier doc number ≡ Some w → write_at later doc number ≡ Some w
write_kept earlier later doc number w keeps h = go (earlier number) refl h
  where
    go : (o : Option Entry) → earlier number ≡ o → written_in o doc ≡ Some w → write_at later doc number ≡ Some w
    go None is g = absurd (none-some _ g)
    go (Some e) is g = ap (λ (o : Option Entry). written_in o doc) (keeps number e is) ∙ g

pub later_itself : (book : Book) → Later book book
later_itself book =
    record { kept = λ number e h. h; above = λ number e none at old other there tie. absurd (none-some _ (sym none ∙ at)) }

pub later_again : (a b c : Book) → Later a b → Later b c → Later a c
later_again a b c first second =
    record {
      kept = λ number e h. second.kept number e (first.kept number e h);
      above = λ number e none at old other there tie. go number e none at old other there tie (b number) refl;
    }
  where
    go : (number : ℕ) (e : Entry) → a number ≡ None → c number ≡ Some e → (old : ℕ) (other : Entry) → a old ≡ Some other → IsTrue (tied other e)
        → (o : Option Entry) → b number ≡ o → old < number
    go number e none at old other there tie None is = second.above number e is at old other (first.kept old other there) tie
    go number e none at old other there tie (Some u) is =
        first.above number e none (is ∙ sym (second.kept number u is) ∙ at) old other there tie

-- what is seen of the entries of a later book that are tied to each other stands above what was seen of the earlier one
pub tied_above : {V : Type 0} (earlier later : Book) (view : Option Entry → Option V) → Later earlier later → view None ≡ None
    → ((a b : Entry) (v w : V) → view (Some a) ≡ Some v → view (Some b) ≡ Some w → tied a b ≡ true)
    → (old new : ℕ) (v w : V) → view (earlier old) ≡ Some v → view (earlier new) ≡ None → view (later new) ≡ Some w → old < new
tied_above earlier later view is_later none tie old new v w there free at = go (earlier old) refl (earlier new) refl (later new) refl
  where
    go : (p : Option Entry) → earlier old ≡ p → (q : Option Entry) → earlier new ≡ q → (r : Option Entry) → later new ≡ r → old < new
    go None is q same r now = absurd (none-some _ (sym (ap view is ∙ none) ∙ there))
    go (Some a) is (Some u) same r now = absurd (none-some _ (sym free ∙ ap view same ∙ ap view (sym (is_later.kept new u same)) ∙ at))
    go (Some a) is None same None now = absurd (none-some _ (sym (ap view now ∙ none) ∙ at))
    go (Some a) is None same (Some e) now =
        is_later.above new e same now old a is (tie a e v w (sym (ap view is) ∙ there) (sym (ap view now) ∙ at))

chosen_some : (b : Bool) (x w : Write) → (if b then Some x else None) ≡ Some w → b ≡ true
chosen_some true x w h = refl
chosen_some false x w h = absurd (none-some _ h)

same_documents : (o p : Option Write) (doc : List ℕ) (w v : Write) → of_document o doc ≡ Some w → of_document p doc ≡ Some v → same_written o p ≡ true
same_documents None p doc w v h g = absurd (none-some _ h)
same_documents (Some x) None doc w v h g = absurd (none-some _ g)
same_documents (Some x) (Some y) doc w v h g =
    let one = (bytes_decides x.doc doc).0 (chosen_some (bytes_eq x.doc doc) x w h) in
    let other = (bytes_decides y.doc doc).0 (chosen_some (bytes_eq y.doc doc) y v g) in
    (bytes_decides x.doc y.doc).1 (one ∙ sym other)

tied_first : (a b c : Bool) → a ≡ true → (a || b || c) ≡ true
tied_first true b c h = refl
tied_first false b c h = absurd (false≢true h)

tied_writes : (doc : List ℕ) (a b : Entry) (w v : Write) → write_to a doc ≡ Some w → write_to b doc ≡ Some v → tied a b ≡ true
tied_writes doc a b w v h g = tied_first _ _ _ (same_documents (as_write a) (as_write b) doc w v h g)

-- in a later book, a write of a document that the earlier one lacks stands above each that it has
pub write_above : (earlier later : Book) → Later earlier later → (doc : List ℕ) (old new : ℕ) (w v : Write) → write_at earlier doc old ≡ Some w
    → write_at earlier doc new ≡ None → write_at later doc new ≡ Some v → old < new
write_above earlier later is_later doc old new w v there free at =
    tied_above earlier later (λ (o : Option Entry). written_in o doc) is_later refl (tied_writes doc) old new w v there free at

-- the same entry in a longer list
get_more : {X : Type 0} (xs ys : List X) (k : ℕ) (x : X) → slice_get xs k ≡ Some x → slice_get (xs ++ ys) k ≡ Some x
get_more [] ys k x h = absurd (none-some _ h)
get_more (y ∷ xs) ys zero x h = h
get_more (y ∷ xs) ys (suc k) x h = get_more xs ys k x h

-- a number at which the book of a history has an entry is at most its length
pub within : (h : List Entry) (number : ℕ) (e : Entry) → book_of h number ≡ Some e → (1 ≤ number) × (number ≤ length h)
within h zero e is = absurd (none-some _ is)
within h (suc place) e is = (omega arith, omega (arith, slice_get_within h place e is))

write_within : (h : List Entry) (doc : List ℕ) (number : ℕ) (w : Write) → write_at (book_of h) doc number ≡ Some w → (1 ≤ number) × (number ≤ length h)
write_within h doc number w is = go (book_of h number) refl is
  where
    go : (o : Option Entry) → book_of h number ≡ o → written_in o doc ≡ Some w → (1 ≤ number) × (number ≤ length h)
    go None at g = absurd (none-some _ g)
    go (Some e) at g = within h number e at

book_kept : (g rest : List Entry) → Keeps (book_of g) (book_of (g ++ rest))
book_kept g rest zero e h = h
book_kept g rest (suc place) e h = get_more g rest place e h

past_of_none : {X : Type 0} (xs : List X) (place : ℕ) → slice_get xs place ≡ None → length xs ≤ place
past_of_none [] place h = omega arith
past_of_none (x ∷ xs) zero h = absurd (none-some _ (sym h))
past_of_none (x ∷ xs) (suc place) h = omega (arith, past_of_none xs place h)

-- a number at which the book of a history has no entry is past its length
beyond : (h : List Entry) (number : ℕ) → 1 ≤ number → book_of h number ≡ None → length h < number
beyond h zero low is = absurd (omega arith)
beyond h (suc place) low is = omega (arith, past_of_none h place is)

-- a history that extends another is later
pub later_extended : (g h : List Entry) → Extends g h → Later (book_of g) (book_of h)
later_extended g h more =
    subst (λ (later : List Entry). Later (book_of g) (book_of later)) (sym more.1)
    (record { kept = book_kept g more.0; above = λ number e none at old other there tie. go number e none at old other there })
  where
    go : (number : ℕ) (e : Entry) → book_of g number ≡ None → book_of (g ++ more.0) number ≡ Some e → (old : ℕ) (other : Entry) → book_of g old ≡ Some other
        → old < number
    go number e none at old other there =
        omega (arith, (within g old other there).1, beyond g number (within (g ++ more.0) number e at).0 none)

shifted : (e f : Entry) (log h : List Entry) → Keeps (book_of (e ∷ log)) (book_of (f ∷ h)) → Keeps (book_of log) (book_of h)
shifted e f log h keeps zero x is = absurd (none-some _ is)
shifted e f log h keeps (suc place) x is = keeps (suc (suc place)) x is

same_some : {X : Type 0} (x y : X) → Some x ≡ Some y → x ≡ y
same_some x y h = cc (h)

-- a history whose book keeps that of another extends it
pub extends_kept : (log h : List Entry) → Keeps (book_of log) (book_of h) → Extends log h
extends_kept [] h keeps = (h, refl)
extends_kept (e ∷ log) [] keeps = absurd (none-some _ (keeps 1 e refl))
extends_kept (e ∷ log) (f ∷ h) keeps =
    let more = extends_kept log h (shifted e f log h keeps) in
    let same : f ≡ e = same_some f e (keeps 1 e refl) in
    (more.0, λ i. same i ∷ more.1 i)

-- a log is in its book with what waits
pub log_kept : (log : List Entry) (waiting : List Waiting) → Keeps (book_of log) (book_with log waiting)
log_kept log waiting number e h = ap (λ (o : Option Entry). entry_or o (waiting_at waiting number)) h

pub extends_log : (log : List Entry) (waiting : List Waiting) (h : List Entry) → Later (book_with log waiting) (book_of h) → Extends log h
extends_log log waiting h later = extends_kept log h (λ number e is. later.kept number e (log_kept log waiting number e is))

take_front : {X : Type 0} (xs ys : List X) (k : ℕ) → k ≤ length xs → take k (xs ++ ys) ≡ take k xs
take_front xs ys zero h = refl
take_front [] ys (suc k) h = absurd (omega arith)
take_front (x ∷ xs) ys (suc k) h = ap (λ (l : List _). x ∷ l) (take_front xs ys k (omega arith))

-- what was said of a front stays
pub same_past : (log h : List Entry) (front : ℕ) → Extends log h → front ≤ length log → past h front ≡ past log front
same_past log h front more low =
    ap (λ (l : List Entry). past l front) more.1 ∙ ap (λ (l : List Entry). reverse l) (take_front log more.0 front low)

-- up to the last write of a document the writes stay as they were
pub same_writes : (earlier later : Book) (doc : List ℕ) (last : Sequenced) → Later earlier later → IsLastWrite earlier doc last → (number : ℕ) → number ≤ last.seq → writes_up_to later number doc ≡ writes_up_to earlier number doc
same_writes earlier later doc last is_later is_last zero low = refl
same_writes earlier later doc last is_later is_last (suc number) low =
    let older = same_writes earlier later doc last is_later is_last number (omega arith) in
    let here = same (write_at earlier doc (suc number)) refl in
    λ i. sequenced_before (here i) (suc number) (older i)
  where
    none : (o : Option Write) → write_at later doc (suc number) ≡ o → write_at earlier doc (suc number) ≡ None → write_at later doc (suc number) ≡ None
    none None is h = is
    none (Some v) is h = absurd (omega (arith, low, write_above earlier later is_later doc last.seq (suc number) last.write v is_last.there h is))

    same : (o : Option Write) → write_at earlier doc (suc number) ≡ o → write_at later doc (suc number) ≡ write_at earlier doc (suc number)
    same None h = none (write_at later doc (suc number)) refl h ∙ sym h
    same (Some w) h = write_kept earlier later doc (suc number) w is_later.kept h ∙ sym h

-- the last write of a document is the last up to its number
pub last_up_to : (book : Book) (doc : List ℕ) (last : Sequenced) → IsLastWrite book doc last → last_write_up_to book last.seq doc ≡ Some last
last_up_to book doc last is = go last.seq refl
  where
    go : (n : ℕ) → last.seq ≡ n → last_write_up_to book n doc ≡ Some last
    go zero at = absurd (omega (arith, is.number, at))
    go (suc n) at =
        ap (λ (o : Option Write). first_write (sequenced_before o (suc n) (writes_up_to book n doc))) (ap (λ (k : ℕ). write_at book doc k) (sym at) ∙ is.there)
        ∙ (λ i. Some (record { seq = sym at i; write = last.write }))

-- in a later book that is still the last write up to its number
pub same_last : (earlier later : Book) (doc : List ℕ) (last : Sequenced) → Later earlier later → IsLastWrite earlier doc last → last_write_up_to later last.seq doc ≡ Some last
same_last earlier later doc last is_later is =
    ap (λ (l : List Sequenced). first_write l) (same_writes earlier later doc last is_later is last.seq (omega arith)) ∙ last_up_to earlier doc last is

past_more : (h : List Entry) (place : ℕ) (e : Entry) → slice_get h place ≡ Some e → past h (suc place) ≡ e ∷ past h place
past_more h place e is =
    let low = slice_get_within h place e is in
    rw (take-suc h place e, reverse-append) (ap (λ (x : Entry). x ∷ past h place) (get_or_from_slice_get h place e e is))

past_end : (h : List Entry) (place : ℕ) → length h ≤ place → past h (suc place) ≡ past h place
past_end h place high =
    ap (λ (l : List Entry). reverse l) (take_all (suc place) h (omega arith) ∙ sym (take_all place h high))

past_length : (h : List Entry) (place : ℕ) (e : Entry) → slice_get h place ≡ Some e → length (past h place) + 1 ≡ suc place
past_length h place e is =
    let low = slice_get_within h place e is in
    omega (arith, length-reverse (take place h), length-take-le place h (omega (arith, low)))

first_before : (o : Option Write) (seq : ℕ) (older : List Sequenced) → first_write (sequenced_before o seq older) ≡ sequenced_or o seq (first_write older)
first_before None seq older = refl
first_before (Some w) seq older = refl

rev_before : (o : Option Write) (seq : ℕ) (older : List Sequenced) (rev : RevId) → first_of_rev (sequenced_before o seq older) rev ≡ with_rev_or o seq rev (first_of_rev older rev)
rev_before None seq older rev = refl
rev_before (Some w) seq older rev = refl

-- the writes of a document up to a number, in the book of a history and among its entries
pub writes_in_past : (h : List Entry) (number : ℕ) (doc : List ℕ) → writes_up_to (book_of h) number doc ≡ writes_to (past h number) doc
writes_in_past h zero doc = refl
writes_in_past h (suc place) doc =
    ap (λ (l : List Sequenced). sequenced_before (write_at (book_of h) doc (suc place)) (suc place) l) (writes_in_past h place doc) ∙ go (slice_get h place) refl
  where
    go : (o : Option Entry) → slice_get h place ≡ o → sequenced_before (written_in (slice_get h place) doc) (suc place) (writes_to (past h place) doc) ≡ writes_to (past h (suc place)) doc
    go None is =
        ap (λ (o : Option Entry). sequenced_before (written_in o doc) (suc place) (writes_to (past h place) doc)) is
        ∙ ap (λ (l : List Entry). writes_to l doc) (sym (past_end h place (past_of_none h place is)))
    go (Some e) is =
        ap (λ (o : Option Entry). sequenced_before (written_in o doc) (suc place) (writes_to (past h place) doc)) is
        ∙ ap (λ (n : ℕ). sequenced_before (write_to e doc) n (writes_to (past h place) doc)) (sym (past_length h place e is))
        ∙ ap (λ (l : List Entry). writes_to l doc) (sym (past_more h place e is))

first_is_last : (es : List Entry) (doc : List ℕ) → first_write (writes_to es doc) ≡ last_write es doc
first_is_last [] doc = refl
first_is_last (e ∷ older) doc =
    first_before (write_to e doc) (length older + 1) (writes_to older doc)
    ∙ ap (λ (o : Option Sequenced). sequenced_or (write_to e doc) (length older + 1) o) (first_is_last older doc)

first_of_rev_is : (es : List Entry) (doc : List ℕ) (rev : RevId) → first_of_rev (writes_to es doc) rev ≡ write_of_rev es doc rev
first_of_rev_is [] doc rev = refl
first_of_rev_is (e ∷ older) doc rev =
    rev_before (write_to e doc) (length older + 1) (writes_to older doc) rev
    ∙ ap (λ (o : Option Sequenced). with_rev_or (write_to e doc) (length older + 1) rev o) (first_of_rev_is older doc rev)

-- the last write up to a number, in the book of a history and among its entries
pub last_in_past : (h : List Entry) (number : ℕ) (doc : List ℕ) → last_write_up_to (book_of h) number doc ≡ last_write (past h number) doc
last_in_past h number doc = ap (λ (l : List Sequenced). first_write l) (writes_in_past h number doc) ∙ first_is_last (past h number) doc

-- the write of a revision up to a number, in the book of a history and among its entries
pub rev_in_past : (h : List Entry) (number : ℕ) (doc : List ℕ) (rev : RevId) → write_of_rev_up_to (book_of h) number doc rev ≡ write_of_rev (past h number) doc rev
rev_in_past h number doc rev = ap (λ (l : List Sequenced). first_of_rev l rev) (writes_in_past h number doc) ∙ first_of_rev_is (past h number) doc rev

-- what is found of a document's last write up to a number
record FoundUpTo (book : Book) (doc : List ℕ) (number : ℕ) (last : Sequenced) : Type 0 where
  pub from : 1 ≤ last.seq
  pub there : write_at book doc last.seq ≡ Some last.write
  pub none_between : (other : ℕ) (w : Write) → other ≤ number → write_at book doc other ≡ Some w → other ≤ last.seq

found_less : (book : Book) (doc : List ℕ) (last : Sequenced) (number : ℕ) → write_at book doc (suc number) ≡ None → FoundUpTo book doc number last → FoundUpTo book doc (suc number) last
found_less book doc last number none older =
    record { from = older.from; there = older.there; none_between = λ other w low at. older.none_between other w (below other w low at) at }
  where
    below : (other : ℕ) (w : Write) → other ≤ suc number → write_at book doc other ≡ Some w → other ≤ number
    below other w low at =
        let apart : other ≢ suc number = λ same. none-some _ (sym none ∙ ap (λ (k : ℕ). write_at book doc k) (sym same) ∙ at) in
        omega (arith, low, apart)

found_here : (book : Book) (doc : List ℕ) (last : Sequenced) (number : ℕ) (w : Write) → write_at book doc (suc number) ≡ Some w → Some (record { seq = suc number; write = w }) ≡ Some last → FoundUpTo book doc (suc number) last
found_here book doc last number w some same =
    subst (λ (l : Sequenced). FoundUpTo book doc (suc number) l) (same_some (record { seq = suc number; write = w }) last same)
    (record { from = omega arith; there = some; none_between = λ other v low at. low })

found : (book : Book) (doc : List ℕ) (last : Sequenced) (number : ℕ) → last_write_up_to book number doc ≡ Some last → FoundUpTo book doc number last
found book doc last zero h = absurd (none-some _ h)
found book doc last (suc number) h = go (write_at book doc (suc number)) refl (λ g. found book doc last number g) h
  where
    go : (o : Option Write) → write_at book doc (suc number) ≡ o → (last_write_up_to book number doc ≡ Some last → FoundUpTo book doc number last) → first_write (sequenced_before o (suc number) (writes_up_to book number doc)) ≡ Some last → FoundUpTo book doc (suc number) last
    go None none older g = found_less book doc last number none (older g)
    go (Some w) some older g = found_here book doc last number w some g

-- the last write in the book of a history
pub last_of_history : (h : List Entry) (doc : List ℕ) (last : Sequenced) → last_write_up_to (book_of h) (length h) doc ≡ Some last → IsLastWrite (book_of h) doc last
last_of_history h doc last is =
    let it = found (book_of h) doc last (length h) is in
    record { number = it.from; there = it.there; none_above = λ number w at. it.none_between number w (write_within h doc number w at).1 at }
