-- kept lists as contracts see them
use Rattle.std.proofs.Common.{◌≡◌, ◌⊎◌, inl, inr, ◌<◌, ◌≤◌, ◌+◌, ℕ, max, zero, suc, refl, sym, ◌∙◌, ap, subst, arith, Bool, true, false, ◌&&◌, cond, if◌then◌else◌, List, [], ◌∷◌, length, map, Some, not, nat_eq}
use Rattle.std.specs.Prelude.{is_some, nat_le, string_bytes, String}
use Rattle.std.specs.Global.{Global}
use Rattle.std.specs.List.{All}
use Rattle.std.specs.Str.{bytes_eq}
use Rattle.std.specs.Cmp.Lexicographic.{bytes_decides}
use Rattle.std.proofs.lemmas.Bool.{cases_lt, false≢true, true≢false}
use Rattle.std.proofs.lemmas.List.{length-append}
use Rattle.sg_history.specs.declared.entries.Entry.{Entry}
use Rattle.sg_history.specs.History.{Extends, among, past}
use Rattle.sg_history.proofs.Books.{same_past}
use Rattle.log_index.specs.Places.{next_at}
use Rattle.channel_cache.specs.Asked.{asked_after_all, refills_of}
use Rattle.channel_cache.specs.inner.Asking.{Apart, names_of}
use Rattle.channel_cache.specs.inner.Counting.{AreLists, is_in_list}
use Rattle.channel_cache.specs.Kept.{AreAsBefore, Cached, KeptList, KeptLists, WereAsked, asked, is_filled, refills_at}
use Rattle.channel_cache.specs.Reads.{ask_reads, filling, passed}
use Rattle.channel_cache.specs.Sequences.{Lists, holds_in, holds_of, is_kept, list_of, sequences_in}
use Rattle.channel_cache.specs.Stands.{CachedOf, IsListOf, StandsFor, has, is_last}
use Rattle.channel_cache.specs.declared.sequences.Sequences.{Sequences}
use Rattle.channel_cache.proofs.Changing.{same_name}
use Rattle.channel_cache.proofs.Having.{has_filter}
use Rattle.channel_cache.proofs.Listing.{has_listed}
use Rattle.channel_cache.proofs.Names.{kept_among}

abbrev pub shown : String Global × Sequences → KeptList
shown e = record { channel = string_bytes e.0; sequences = sequences_in e.1 }

pub shown_names : (place most : ℕ) (es : Lists) → asked (record { place = place; lists = map shown es; most = most }) ≡ names_of es
shown_names place most [] = refl
shown_names place most (e ∷ es) = ap (λ (l : List (List ℕ)). string_bytes e.0 ∷ l) (shown_names place most es)

-- one list
one_list : (es : List Entry) (e : String Global × Sequences) → IsListOf es (shown e) → (seq : ℕ) → (has (sequences_in e.1) seq && is_last (next_at es seq)) ≡ is_in_list es (string_bytes e.0 ∷ []) seq
one_list es e is seq =
    sym (has_filter (λ s. is_last (next_at es s)) (sequences_in e.1) seq)
    ∙ is seq
    ∙ has_listed es (string_bytes e.0 ∷ []) es seq

list_one : (es : List Entry) (e : String Global × Sequences) → ((seq : ℕ) → (has (sequences_in e.1) seq && is_last (next_at es seq)) ≡ is_in_list es (string_bytes e.0 ∷ []) seq) → IsListOf es (shown e)
list_one es e is seq =
    has_filter (λ s. is_last (next_at es s)) (sequences_in e.1) seq
    ∙ is seq
    ∙ sym (has_listed es (string_bytes e.0 ∷ []) es seq)

pub lists_of : (es : List Entry) (lists : Lists) → All (IsListOf es) (map shown lists) → AreLists es lists
lists_of es [] all c seq kept = absurd (false≢true kept)
lists_of es (e ∷ lists) all c seq kept = by (bytes_eq c (string_bytes e.0)) refl kept (λ h. lists_of es lists (λ i d within. all (suc i) d (omega (arith, within))) c seq h)
  where
    by : (b : Bool) → bytes_eq c (string_bytes e.0) ≡ b → is_some (cond b (Some e.1) (list_of lists c)) ≡ true
        → (is_kept lists c ≡ true → (holds_of lists c seq && is_last (next_at es seq)) ≡ is_in_list es (c ∷ []) seq)
        → (holds_of (e ∷ lists) c seq && is_last (next_at es seq)) ≡ is_in_list es (c ∷ []) seq
    by true is kept rest =
        ap (λ (b : Bool). holds_in (cond b (Some e.1) (list_of lists c)) seq && is_last (next_at es seq)) is
        ∙ one_list es e (all 0 (shown e) (omega arith)) seq
        ∙ ap (λ (n : List ℕ). is_in_list es (n ∷ []) seq) (sym (same_name c (string_bytes e.0) is))
    by false is kept rest = ap (λ (b : Bool). holds_in (cond b (Some e.1) (list_of lists c)) seq && is_last (next_at es seq)) is ∙ rest kept

all_cons : {X : Type 0} (P : X → Type 0) (x : X) (xs : List X) → P x → All P xs → All P (x ∷ xs)
all_cons P x xs p rest zero d within = p
all_cons P x xs p rest (suc i) d within = rest i d (omega (arith, within))

pub of_lists : (es : List Entry) (lists : Lists) → Apart (names_of lists) → AreLists es lists → All (IsListOf es) (map shown lists)
of_lists es [] apart are = λ i d within. absurd (omega (arith, within))
of_lists es (e ∷ lists) apart are = all_cons (IsListOf es) (shown e) (map shown lists) (list_one es e own) (of_lists es lists apart.1 later)
  where
    n : List ℕ
    n = string_bytes e.0

    first : bytes_eq n n ≡ true
    first = (bytes_decides n n).1 refl

    own : (seq : ℕ) → (has (sequences_in e.1) seq && is_last (next_at es seq)) ≡ is_in_list es (n ∷ []) seq
    own seq =
        sym (ap (λ (b : Bool). holds_in (cond b (Some e.1) (list_of lists n)) seq && is_last (next_at es seq)) first)
        ∙ are n seq (ap (λ (b : Bool). is_some (cond b (Some e.1) (list_of lists n))) first)

    later : AreLists es lists
    later c seq kept = by (bytes_eq c n) refl
      where
        by : (b : Bool) → bytes_eq c n ≡ b → (holds_of lists c seq && is_last (next_at es seq)) ≡ is_in_list es (c ∷ []) seq
        by true is = absurd (true≢false (sym kept ∙ kept_among lists c ∙ ap (among (names_of lists)) (same_name c n is) ∙ apart.0))
        by false is =
            sym (ap (λ (b : Bool). holds_in (cond b (Some e.1) (list_of lists c)) seq && is_last (next_at es seq)) is)
            ∙ are c seq (ap (λ (b : Bool). is_some (cond b (Some e.1) (list_of lists c))) is ∙ kept)

pub longer : (earlier later : List Entry) → Extends earlier later → length earlier ≤ length later
longer earlier later extends = omega (arith, ap length extends.1, length-append earlier extends.0)

-- what stands for a log stands for each that extends it
pub stands_longer : (kept : KeptLists) (earlier later : List Entry) → StandsFor kept earlier → Extends earlier later → StandsFor kept later
stands_longer kept earlier later stands extends = record {
  within = omega (arith, stands.within, longer earlier later extends);
  lists = subst (λ (es : List Entry). All (IsListOf es) kept.lists) (sym (same_past earlier later kept.place extends stands.within)) stands.lists;
}

pub cached_longer : (cached : Cached) (earlier later : List Entry) → CachedOf cached earlier → Extends earlier later → CachedOf cached later
cached_longer cached earlier later stands extends =
    let n = stands.index in
    record {
      lists = stands_longer cached.lists earlier later stands.lists extends;
      index = (n.0, n.1, omega (arith, n.2, longer earlier later extends), n.3 ∙ sym (same_past earlier later n.0 extends n.2));
    }

-- lists under their channels, as contracts see them
abbrev pub view_of : ℕ → Lists → ℕ → KeptLists
view_of place lists most = record { place = place; lists = map shown lists; most = most }

pub view_names : (place : ℕ) (lists : Lists) (most : ℕ) (kept : KeptLists) → view_of place lists most ≡ kept → asked kept ≡ names_of lists
view_names place lists most kept is = ap asked (sym is) ∙ shown_names place most lists

-- no lists stand for each log that is long enough
pub none_stands : (place most : ℕ) (lists : Lists) (entries : List Entry) → lists ≡ [] → place ≤ length entries → StandsFor (view_of place lists most) entries
none_stands place most lists entries none within =
    subst (λ (l : Lists). StandsFor (view_of place l most) entries) (sym none) (record { within = within; lists = λ i d inside. absurd (omega (arith, inside)) })

-- the lists, asked for some channels up to a place
module _ (entries : List Entry) (place to most : ℕ) (old : Lists) (kept : KeptLists) (is : view_of place old most ≡ kept) where
  pub lists_before : StandsFor kept entries → AreLists (past entries place) old
  lists_before stands =
      let own : StandsFor (view_of place old most) entries = subst (λ (k : KeptLists). StandsFor k entries) (sym is) stands in
      lists_of (past entries place) old own.lists

  pub refills_here : (channels : List (List ℕ)) → (if nat_le place to then refills_of most channels (names_of old) else length channels) ≡ refills_at kept channels to
  refills_here channels =
      ap (λ (l : List (List ℕ)). if nat_le place to then refills_of most channels l else length channels) (sym (shown_names place most old))
      ∙ ap (λ (k : KeptLists). refills_at k channels to) is

  pub reads_here : (channels : List (List ℕ)) (first last : ℕ)
      → last ≤ first + passed entries place to + filling (if nat_le place to then refills_of most channels (names_of old) else length channels) to
      → last ≤ first + ask_reads kept entries channels to
  reads_here channels first last high =
      let here : place ≡ kept.place = ap (λ (k : KeptLists). k.place) is in
      let counted = subst (λ (n : ℕ). last ≤ first + passed entries place to + filling n to) (refills_here channels) high in
      let passing = subst (λ (n : ℕ). last ≤ first + passed entries n to + filling (refills_at kept channels to) to) here counted in
      omega (arith, passing)

  -- once they were asked
  module _ (at most_later : ℕ) (new : Lists) (moved : at ≡ max place to) where
    pub stands_asked : StandsFor kept entries → to ≤ length entries → Apart (names_of new) → (place ≤ to → AreLists (past entries to) new) → (to < place → new ≡ old) → StandsFor (view_of at new most_later) entries
    stands_asked stands high apart after same = record {
      within = omega (arith, moved, stands.within, ap (λ (k : KeptLists). k.place) is, high);
      lists = of_lists (past entries at) new apart (by (cases_lt to place));
    }
      where
        by : (to < place) ⊎ (place ≤ to) → AreLists (past entries at) new
        by (inl behind) =
            let here : at ≡ place = omega (arith, behind, moved) in
            subst (λ (n : ℕ). AreLists (past entries n) new) (sym here) (subst (λ (l : Lists). AreLists (past entries place) l) (sym (same behind)) (lists_before stands))
        by (inr ahead) =
            let here : at ≡ to = omega (arith, ahead, moved) in
            subst (λ (n : ℕ). AreLists (past entries n) new) (sym here) (after ahead)

    pub were_asked : (channels : List (List ℕ)) → (place ≤ to → names_of new ≡ asked_after_all most channels (names_of old)) → kept.place ≤ to → WereAsked kept (view_of at new most_later) channels to
    were_asked channels names ahead =
        let low : place ≤ to = omega (arith, ahead, ap (λ (k : KeptLists). k.place) is) in
        record {
          place = omega (arith, low, moved);
          asked =
              shown_names at most_later new
              ∙ names low
              ∙ ap (asked_after_all most channels) (sym (view_names place old most kept is))
              ∙ ap (λ (n : ℕ). asked_after_all n channels (asked kept)) (ap (λ (k : KeptLists). k.most) is);
        }

    pub are_as_before : (to < place → new ≡ old) → to < kept.place → AreAsBefore kept (view_of at new most_later)
    are_as_before same behind =
        let low : to < place = omega (arith, behind, ap (λ (k : KeptLists). k.place) is) in
        record {
          place = omega (arith, low, moved, ap (λ (k : KeptLists). k.place) is);
          asked = shown_names at most_later new ∙ ap names_of (same low) ∙ sym (view_names place old most kept is);
        }

-- one channel is filled where it is not among the asked, or the place was passed
pub filled_is : (kept : KeptLists) (channel : List ℕ) (to : ℕ) → not (nat_eq (refills_at kept (channel ∷ []) to) 0) ≡ is_filled kept channel to
filled_is kept channel to = by (nat_le kept.place to) (among (asked kept) channel)
  where
    by : (a b : Bool) → not (nat_eq (if a then (if b then 0 else 1) + 0 else 1) 0) ≡ not (b && a)
    by true true = refl
    by true false = refl
    by false true = refl
    by false false = refl
