-- The first result that ends the reading of a head, by parts of the list of results.
use Rattle.std.proofs.Common.{◌≡◌, ◌↔◌, ℕ, List, [], ◌∷◌, ◌++◌, Option, Some, None, Result, refl, sym, ap, ◌∙◌, append_assoc, append-nil}
use Rattle.sg_outside.specs.Wire.{LineRead}
use Rattle.ws_door.specs.declared.heads.HeadFault.{HeadFault}
use Rattle.ws_door.specs.Heads.{ending, bytes_in, idle_in, last_ending, head_behind, head_in, EndsReading}

abbrev Answer : Type 0
Answer = Result (List ℕ) HeadFault

abbrev behind : List LineRead → LineRead → Option Answer
behind before result = ending (bytes_in before) (idle_in before) result

-- `Ends`, where these results came before
record EndsBehind (seen results : List LineRead) (answer : Answer) : Type 0 where
  before : List LineRead
  last : LineRead
  are : results ≡ before ++ last ∷ []
  so : behind (seen ++ before) last ≡ Some answer
  goes_on : (front back : List LineRead) (result : LineRead) → before ≡ front ++ result ∷ back → behind (seen ++ front) result ≡ None

no_parts : (front back : List LineRead) (result : LineRead) → [] ≡ front ++ result ∷ back → ⊥
no_parts [] back result e = cc
no_parts (first ∷ front) back result e = cc

-- the place of a result, with the one before it among those that were seen, or not
moved : (seen front : List LineRead) (result last : LineRead) → behind ((seen ++ result ∷ []) ++ front) last ≡ behind (seen ++ result ∷ front) last
moved seen front result last = ap (λ (before : List LineRead). behind before last) (append_assoc seen (result ∷ []) front)

at_once : (seen : List LineRead) (last : LineRead) → behind (seen ++ []) last ≡ behind seen last
at_once seen last = ap (λ (before : List LineRead). behind before last) (append-nil seen)

goes_on_behind : (seen before : List LineRead) (result : LineRead) → behind seen result ≡ None
    → ((front back : List LineRead) (r : LineRead) → before ≡ front ++ r ∷ back → behind ((seen ++ result ∷ []) ++ front) r ≡ None)
    → (front back : List LineRead) (r : LineRead) → result ∷ before ≡ front ++ r ∷ back → behind (seen ++ front) r ≡ None
goes_on_behind seen before result none rest [] back r e =
    let same : r ≡ result = cc in at_once seen r ∙ ap (behind seen) same ∙ none
goes_on_behind seen before result none rest (first ∷ front) back r e =
    let same : first ≡ result = cc in
    let later : before ≡ front ++ r ∷ back = cc in
    ap (λ (one : LineRead). behind (seen ++ one ∷ front) r) same ∙ sym (moved seen front result r) ∙ rest front back r later

one_more : (seen later : List LineRead) (result : LineRead) (answer : Answer) → behind seen result ≡ None → EndsBehind (seen ++ result ∷ []) later answer → EndsBehind seen (result ∷ later) answer
one_more seen later result answer none rest = record {
  before = result ∷ rest.before;
  last = rest.last;
  are = ap (λ (more : List LineRead). result ∷ more) rest.are;
  so = sym (moved seen rest.before result rest.last) ∙ rest.so;
  goes_on = goes_on_behind seen rest.before result none rest.goes_on;
}

by_ending : (seen later : List LineRead) (result : LineRead) (answer : Answer) (further : Option Answer) (o : Option Answer) → behind seen result ≡ o
    → (further ≡ Some answer → EndsBehind (seen ++ result ∷ []) later answer) → last_ending o later further ≡ Some answer → EndsBehind seen (result ∷ later) answer
by_ending seen later result answer further None is rest e = one_more seen later result answer is (rest e)
by_ending seen [] result answer further (Some other) is rest e = record {
  before = [];
  last = result;
  are = refl;
  so = at_once seen result ∙ is ∙ e;
  goes_on = λ front back r h. absurd (no_parts front back r h);
}
by_ending seen (next ∷ later) result answer further (Some other) is rest e = cc

first_end : (seen results : List LineRead) (answer : Answer) → head_behind seen results ≡ Some answer → EndsBehind seen results answer
first_end seen [] answer e = cc
first_end seen (result ∷ later) answer e =
    by_ending seen later result answer (head_behind (seen ++ result ∷ []) later) (behind seen result) refl (first_end (seen ++ result ∷ []) later answer) e

found_end : (seen before : List LineRead) (last : LineRead) (answer : Answer) → behind (seen ++ before) last ≡ Some answer
    → ((front back : List LineRead) (r : LineRead) → before ≡ front ++ r ∷ back → behind (seen ++ front) r ≡ None) → head_behind seen (before ++ last ∷ []) ≡ Some answer
found_end seen [] last answer so none = ap (λ (o : Option Answer). last_ending o [] (head_behind (seen ++ last ∷ []) [])) (sym (at_once seen last) ∙ so)
found_end seen (result ∷ before) last answer so none =
    ap (λ (o : Option Answer). last_ending o (before ++ last ∷ []) (head_behind (seen ++ result ∷ []) (before ++ last ∷ []))) (sym (at_once seen result) ∙ none [] before result refl)
    ∙ found_end (seen ++ result ∷ []) before last answer (moved seen before result last ∙ so)
    (λ front back r h. moved seen front result r ∙ none (result ∷ front) back r (ap (λ (more : List LineRead). result ∷ more) h))

pub ends_so : (results : List LineRead) (answer : Answer) → (head_in results ≡ Some answer) ↔ EndsReading results answer
ends_so results answer = (
  λ e. let first = first_end [] results answer e in record {
    before = first.before;
    last = first.last;
    are = first.are;
    so = first.so;
    goes_on = first.goes_on;
  },
  λ ends. ap head_in ends.are ∙ found_end [] ends.before ends.last answer ends.so ends.goes_on,
)
