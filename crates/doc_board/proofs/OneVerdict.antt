-- what a program says of a revision by a board is one verdict: its document, the one before it, and who proposes it are each determined
use Rattle.std.proofs.Common.{◌≡◌, ◌∙◌, ℕ, Bool, true, false, ◌||◌, List, [], ◌∷◌, Option, Some, None, refl, sym, ap, subst, reverse}
use Rattle.std.proofs.lemmas.Bool.{and_parts, or_left, false≢true, false_from_ne_true}
use Rattle.std.proofs.lemmas.Cmp.{nat_list_cmp_total}
use Rattle.std.proofs.lemmas.Option.{same_Some}
use Rattle.std.proofs.lemmas.Slice.Eq.{bytes_eq-Decides}
use Rattle.std.specs.declared.cmp.Ordering.{Ordering}
use Rattle.std.specs.declared.cmp.Ordering.TheVariants.{Less, Equal, Greater}
use Rattle.std.specs.Ordering.{nat_cmp, is_lt, ordering_reverse}
use Rattle.std.specs.Cmp.Lexicographic.{slice_cmp}
use Rattle.std.specs.Str.{bytes_eq}
use Rattle.serde_json.specs.Data as json
use Rattle.sg_names.specs.ItemList.{rises}
use Rattle.sg_history.specs.History.{among}
use Rattle.sg_history.specs.declared.entries.Entry.{Entry}
use Rattle.sg_history.specs.declared.entries.Write.{Write}
use Rattle.sg_history.specs.Board.{BoardState}
use Rattle.json_doc.specs.Tree.{Tree}
use Rattle.json_doc.specs.Reading.{ReadsAs, IsDocument, tree_of}
use Rattle.json_doc.specs.System.{with_system}
use Rattle.repl_messages.specs.declared.revision.Revision.{Revision}
use Rattle.sync_syntax.specs.declared.tree.Program.{Program}
use Rattle.sync_values.specs.Found.{Found}
use Rattle.sync_meaning.specs.declared.effects.Effects.{Effects}
use Rattle.sync_meaning.specs.declared.state.Context.{Context}
use Rattle.sync_meaning.specs.Meaning.{meaning}
use Rattle.doc_board.specs.Contexts.{AreNamed, IsContext}
use Rattle.doc_board.specs.Judging.{IsTreeOf, IsOldTree, IsSaid, board_base, body_or_empty}

-- ---- names

less : (o : Ordering) → is_lt o ≡ true → o ≡ Less
less Less h = refl
less Equal h = absurd (false≢true h)
less Greater h = absurd (false≢true h)

itself : (x : List ℕ) → bytes_eq x x ≡ true
itself x = (bytes_eq-Decides x x).1 refl

same_name : (x y : List ℕ) → bytes_eq x y ≡ true → x ≡ y
same_name x y h = (bytes_eq-Decides x y).0 h

-- no name comes before itself
not_before_itself : (x : List ℕ) → slice_cmp nat_cmp x x ≡ Less → ⊥
not_before_itself x h =
    false≢true (sym (ap (λ (o : Ordering). is_lt (ordering_reverse o)) h) ∙ sym (ap is_lt (nat_list_cmp_total.antisymm x x)) ∙ ap is_lt h)

apart : (x y : List ℕ) → slice_cmp nat_cmp x y ≡ Less → bytes_eq y x ≡ false
apart x y h =
    let B : List ℕ → Type 0 = λ z. slice_cmp nat_cmp x z ≡ Less in
    false_from_ne_true (bytes_eq y x) (λ e. not_before_itself x (subst B (same_name y x e) h))

-- a name comes before each of these
abbrev AllAfter : List ℕ → List (List ℕ) → Type 0
AllAfter x [] = Unit {0}
AllAfter x (y ∷ ys) = (slice_cmp nat_cmp x y ≡ Less) × AllAfter x ys

sooner : (x y : List ℕ) (ys : List (List ℕ)) → slice_cmp nat_cmp x y ≡ Less → AllAfter y ys → AllAfter x ys
sooner x y [] h all = tt
sooner x y (z ∷ zs) h all = (nat_list_cmp_total.trans x y z h all.0, sooner x y zs h all.1)

all_after : (x : List ℕ) (xs : List (List ℕ)) → rises (slice_cmp nat_cmp) (x ∷ xs) ≡ true → AllAfter x xs
all_after x [] h = tt
all_after x (y ∷ ys) h =
    let parts = and_parts (is_lt (slice_cmp nat_cmp x y)) (rises (slice_cmp nat_cmp) (y ∷ ys)) h in
    let first : slice_cmp nat_cmp x y ≡ Less = less (slice_cmp nat_cmp x y) parts.0 in
    (first, sooner x y ys first (all_after y ys parts.1))

tail_rises : (x : List ℕ) (xs : List (List ℕ)) → rises (slice_cmp nat_cmp) (x ∷ xs) ≡ true → rises (slice_cmp nat_cmp) xs ≡ true
tail_rises x [] h = refl
tail_rises x (y ∷ ys) h = (and_parts (is_lt (slice_cmp nat_cmp x y)) (rises (slice_cmp nat_cmp) (y ∷ ys)) h).1

not_among : (x : List ℕ) (xs : List (List ℕ)) → AllAfter x xs → among xs x ≡ false
not_among x [] all = refl
not_among x (y ∷ ys) all = ap (λ (b : Bool). b || among ys x) (apart x y all.0) ∙ not_among x ys all.1

found_after : (x : List ℕ) (xs : List (List ℕ)) (n : List ℕ) → AllAfter x xs → among xs n ≡ true → slice_cmp nat_cmp x n ≡ Less
found_after x [] n all h = absurd (false≢true h)
found_after x (y ∷ ys) n all h = go (λ found. found_after x ys n all.1 found) (bytes_eq y n) refl h
  where
    go : (among ys n ≡ true → slice_cmp nat_cmp x n ≡ Less) → (b : Bool) → bytes_eq y n ≡ b → (b || among ys n) ≡ true → slice_cmp nat_cmp x n ≡ Less
    go later true is found = subst (λ (z : List ℕ). slice_cmp nat_cmp x z ≡ Less) (same_name y n is) all.0
    go later false is found = later found

-- the first of the one list is the first of the other, or comes after it
first_is : (x y : List ℕ) (ys : List (List ℕ)) → AllAfter y ys → among (y ∷ ys) x ≡ true → bytes_eq y x ≡ false → slice_cmp nat_cmp y x ≡ Less
first_is x y ys all found other = found_after y ys x all (sym (ap (λ (b : Bool). b || among ys x) other) ∙ found)

same_first : (x y : List ℕ) (xs ys : List (List ℕ)) → AllAfter x xs → AllAfter y ys → among (y ∷ ys) x ≡ true → among (x ∷ xs) y ≡ true → x ≡ y
same_first x y xs ys after_x after_y there back = go (bytes_eq x y) refl (bytes_eq y x) refl
  where
    go : (b : Bool) → bytes_eq x y ≡ b → (d : Bool) → bytes_eq y x ≡ d → x ≡ y
    go true is d other = same_name x y is
    go false is true other = sym (same_name y x other)
    go false is false other =
        absurd (not_before_itself x (nat_list_cmp_total.trans x y x (first_is y x xs after_x back is) (first_is x y ys after_y there other)))

same_rest : (x n : List ℕ) (xs ys : List (List ℕ)) → AllAfter x xs → AllAfter x ys → among (x ∷ xs) n ≡ among (x ∷ ys) n → among xs n ≡ among ys n
same_rest x n xs ys after_x after_y same = go (bytes_eq x n) refl same
  where
    at_first : (zs : List (List ℕ)) → AllAfter x zs → bytes_eq x n ≡ true → among zs n ≡ false
    at_first zs after is = subst (λ (m : List ℕ). among zs m ≡ false) (same_name x n is) (not_among x zs after)

    go : (b : Bool) → bytes_eq x n ≡ b → (b || among xs n) ≡ (b || among ys n) → among xs n ≡ among ys n
    go true is h = at_first xs after_x is ∙ sym (at_first ys after_y is)
    go false is h = h

first_there : (x : List ℕ) (xs : List (List ℕ)) → among (x ∷ xs) x ≡ true
first_there x xs = or_left (bytes_eq x x) (among xs x) (itself x)

one_order : (xs ys : List (List ℕ)) → rises (slice_cmp nat_cmp) xs ≡ true → rises (slice_cmp nat_cmp) ys ≡ true → ((n : List ℕ) → among xs n ≡ among ys n) → xs ≡ ys
one_order [] [] first second same = refl
one_order [] (y ∷ ys) first second same = absurd (false≢true (same y ∙ first_there y ys))
one_order (x ∷ xs) [] first second same = absurd (false≢true (sym (same x) ∙ first_there x xs))
one_order (x ∷ xs) (y ∷ ys) first second same =
    let after_x : AllAfter x xs = all_after x xs first in
    let after_y : AllAfter y ys = all_after y ys second in
    let head : x ≡ y = same_first x y xs ys after_x after_y (sym (same x) ∙ first_there x xs) (same y ∙ first_there y ys) in
    let A : List ℕ → Type 0 = λ z. AllAfter z ys in
    let N : List ℕ → Type 0 = λ z. (n : List ℕ) → among (x ∷ xs) n ≡ among (z ∷ ys) n in
    let rest : xs ≡ ys = one_order xs ys (tail_rises x xs first) (tail_rises y ys second) (λ n. same_rest x n xs ys after_x (subst A (sym head) after_y) (subst N (sym head) same n)) in
    ap (λ (z : List ℕ). z ∷ xs) head ∙ ap (λ (zs : List (List ℕ)). y ∷ zs) rest

-- ---- documents

one_reading : (bytes : List ℕ) (d e : json.Data) → ReadsAs bytes d → ReadsAs bytes e → d ≡ e
one_reading [] d e first second = first ∙ sym second
one_reading (b ∷ bytes) d e first second = same_Some d e (sym first.1 ∙ second.1)

one_document : (bytes : List ℕ) (t u : Tree) → IsDocument bytes t → IsDocument bytes u → t ≡ u
one_document bytes t u (ms, reads, plain, is) (ns, also, clear, says) =
    is ∙ ap tree_of (one_reading bytes (json.object ms) (json.object ns) reads also) ∙ sym says

one_tree : (body id : List ℕ) (deleted : Bool) (t u : Tree) → IsTreeOf body id deleted t → IsTreeOf body id deleted u → t ≡ u
one_tree body id deleted t u (doc, reads, is) (other, also, says) =
    is ∙ ap (with_system id deleted) (one_document body doc other reads also) ∙ sym says

one_old : (o : Option Write) (id : List ℕ) (x y : Option Tree) → IsOldTree o id x → IsOldTree o id y → x ≡ y
one_old None id x y first second = first ∙ sym second
one_old (Some w) id x y (t, reads, is) (u, also, says) =
    is ∙ ap (λ (z : Tree). Some z) (one_tree w.body id w.deleted t u reads also) ∙ sym says

-- ---- contexts

one_list : (holds : List ℕ → Bool) (xs ys : List (List ℕ)) → AreNamed holds xs → AreNamed holds ys → xs ≡ ys
one_list holds xs ys first second = one_order xs ys first.order second.order (λ n. first.names n ∙ sym (second.names n))

one_context : (es : List Entry) (by : Option (List ℕ)) (c d : Context) → IsContext es by c → IsContext es by d → c ≡ d
one_context es None c d (user, roles, channels) (other, also, too) =
    let p : c.user ≡ d.user = user ∙ sym other in
    let q : c.roles ≡ d.roles = roles ∙ sym also in
    let r : c.channels ≡ d.channels = channels ∙ sym too in
    λ i. record { user = p i; roles = q i; channels = r i }
one_context es (Some name) c d first second =
    let p : c.user ≡ d.user = first.user ∙ sym second.user in
    let q : c.roles ≡ d.roles = one_list _ c.roles d.roles first.roles second.roles in
    let r : c.channels ≡ d.channels = one_list _ c.channels d.channels first.channels second.channels in
    λ i. record { user = p i; roles = q i; channels = r i }

-- ---- verdicts

pub one_verdict : (program : Program) (by : Option (List ℕ)) (r : Revision) (board : BoardState) (first second : Found Effects) → IsSaid program by r board first → IsSaid program by r board second → first ≡ second
one_verdict program by r board first second a b =
    sym a.is_meant
    ∙ ap (λ (t : Tree). meaning program t a.old a.context) (one_tree (body_or_empty r.body) r.doc r.deleted a.document b.document a.is_document b.is_document)
    ∙ ap (λ (o : Option Tree). meaning program b.document o a.context) (one_old (board_base board r.doc r.ancestors) r.doc a.old b.old a.is_old b.is_old)
    ∙ ap (λ (c : Context). meaning program b.document b.old c) (one_context (reverse board.log) by a.context b.context a.is_context b.is_context)
    ∙ b.is_meant
