-- What one more result of reading does to the reading of a head.
use Rattle.std.proofs.Common.{◌≡◌, ℕ, ◌+◌, ◌==◌, ◌&&◌, Bool, true, false, IsTrue, List, [], ◌∷◌, ◌++◌, Option, Some, None, Result, Ok, Err, refl, sym, ap, ◌∙◌, append_assoc, append-nil}
use Rattle.std.specs.Prelude.{count_by, cond}
use Rattle.std.proofs.lemmas.List.Concat.{flat_map-append}
use Rattle.std.proofs.lemmas.Bool.{and_from}
use Rattle.std.proofs.lemmas.List.Folds.{list_all-append}
use Rattle.std.proofs.lemmas.List.Sums.{sum_by-append}
use Rattle.std.specs.List.{list_all}
use Rattle.sg_outside.specs.Wire.{LineRead, LinkRecord}
use Rattle.sg_lines.specs.Link.{read_after, ReadsIfRecorded}
use Rattle.ws_door.specs.declared.heads.HeadFault.{HeadFault}
use Rattle.ws_door.specs.declared.heads.HeadFault.TheVariants as fault
use Rattle.ws_door.specs.declared.head_reader.HeadReader.{HeadReader}
use Rattle.ws_door.specs.Heads.{is_whole, read_bytes, is_idle, is_single, bytes_in, idle_in, ending, last_ending, head_behind, head_in, EndsReadingWith, ReadsHeadIfRecorded}
use Rattle.ws_door.specs.inner.HeadReader.{HasRoom, answer_of, Continues, ReadsOn, Follows}

read_none : (mid to : Option LinkRecord) (read : LineRead) → mid ≡ None → ReadsIfRecorded mid read to → to ≡ None
read_none None to read e h = h
read_none (Some link) to read e h = cc

read_some : (mid to : Option LinkRecord) (link : LinkRecord) (read : LineRead) → mid ≡ Some link → ReadsIfRecorded mid read to → to ≡ Some (read_after link read)
read_some None to link read e h = cc
read_some (Some other) to link read e h = cc

-- the result stands behind the others
read_further : (from : LinkRecord) (mid to : Option LinkRecord) (results : List LineRead) (read : LineRead)
    → mid ≡ Some (record from { read = from.read ++ results }) → ReadsIfRecorded mid read to
    → to ≡ Some (record from { read = from.read ++ (results ++ read ∷ []) })
read_further from mid to results read e h =
    read_some mid to (record from { read = from.read ++ results }) read e h
    ∙ ap (λ (r : List LineRead). Some (record from { read = r })) (append_assoc from.read results (read ∷ []))

goes_further : (results : List LineRead) (read : LineRead) → ((later : List LineRead) → head_in (results ++ later) ≡ head_behind results later)
    → ending (bytes_in results) (idle_in results) read ≡ None
    → (later : List LineRead) → head_in ((results ++ read ∷ []) ++ later) ≡ head_behind (results ++ read ∷ []) later
goes_further results read goes e later =
    ap head_in (append_assoc results (read ∷ []) later) ∙ goes (read ∷ later)
    ∙ ap (λ o. last_ending o later (head_behind (results ++ read ∷ []) later)) e

ends_here : (results : List LineRead) (read : LineRead) (answer : Result (List ℕ) HeadFault) → ((later : List LineRead) → head_in (results ++ later) ≡ head_behind results later)
    → ending (bytes_in results) (idle_in results) read ≡ Some answer → head_in (results ++ read ∷ []) ≡ Some answer
ends_here results read answer goes e =
    goes (read ∷ []) ∙ ap (λ o. last_ending o [] (head_behind (results ++ read ∷ []) [])) e

one_more_bytes : (results : List LineRead) (read : LineRead) → bytes_in (results ++ read ∷ []) ≡ bytes_in results ++ read_bytes read
one_more_bytes results read = flat_map-append read_bytes results (read ∷ []) ∙ ap (λ x. bytes_in results ++ x) (append-nil (read_bytes read))

one_more_idle : (results : List LineRead) (read : LineRead) → idle_in (results ++ read ∷ []) ≡ idle_in results + count_by is_idle (read ∷ [])
one_more_idle results read = sum_by-append (λ r. cond (is_idle r) 1 0) results (read ∷ [])

one_more_single : (results : List LineRead) (read : LineRead) → IsTrue (list_all is_single results) → IsTrue (is_single read) → IsTrue (list_all is_single (results ++ read ∷ []))
one_more_single results read before here =
    list_all-append is_single results (read ∷ []) ∙ and_from (list_all is_single results) (is_single read && true) before (and_from (is_single read) true here refl)

-- where the ending is that of these bytes and idle results, it is that of the results
same_ending : (head : HeadReader) (results : List LineRead) (read : LineRead) (answer : Option (Result (List ℕ) HeadFault))
    → head.bytes.items ≡ bytes_in results → head.idle ≡ idle_in results → answer ≡ ending head.bytes.items head.idle read
    → ending (bytes_in results) (idle_in results) read ≡ answer
same_ending head results read answer bytes idle e =
    ap (λ b. ending b (idle_in results) read) (sym bytes) ∙ ap (λ i. ending head.bytes.items i read) (sym idle) ∙ sym e

pub begins : (recorded : Option LinkRecord) (head : HeadReader) → head.bytes.items ≡ [] → head.idle ≡ 0 → Follows recorded head recorded
begins None head bytes idle = refl
begins (Some from) head bytes idle = (
  [],
  record {
    read = ap (λ (r : List LineRead). Some (record from { read = r })) (sym (append-nil from.read));
    bytes = bytes;
    idle = idle;
    single = refl;
    goes_on = λ later. refl;
  },
)

pub follows_on : (from mid to : Option LinkRecord) (before after : HeadReader) (whole : Bool) → whole ≡ false → Follows from before mid → ReadsOn mid before (Ok whole) to after → Follows from after to
follows_on None mid to before after whole is f r = read_none mid to r.0 f r.1
follows_on (Some from) mid to before after whole is f r =
    let none = ap (λ (b : Bool). answer_of (Ok b) after.bytes.items) is in
    let same = same_ending before f.0 r.0 None f.1.bytes f.1.idle (sym none ∙ r.2.ending_is) in (
      f.0 ++ r.0 ∷ [],
      record {
        read = read_further from mid to f.0 r.0 f.1.read r.1;
        bytes = r.2.bytes ∙ ap (λ b. b ++ read_bytes r.0) f.1.bytes ∙ sym (one_more_bytes f.0 r.0);
        idle = r.2.idle ∙ ap (λ i. i + count_by is_idle (r.0 ∷ [])) f.1.idle ∙ sym (one_more_idle f.0 r.0);
        single = one_more_single f.0 r.0 f.1.single r.3;
        goes_on = goes_further f.0 r.0 f.1.goes_on same;
      },
    )

-- where reading goes on there is still room
pub room_left : (before after : HeadReader) (whole : Bool) → whole ≡ false → Continues before (Ok whole) after → HasRoom after
room_left before after true is continues = cc
room_left before after false is continues = continues.0

ends_so : (from : LinkRecord) (mid to : Option LinkRecord) (before after : HeadReader) (answer : Result Bool HeadFault) (end : Result (List ℕ) HeadFault)
    → Follows (Some from) before mid → ReadsOn mid before answer to after → answer_of answer after.bytes.items ≡ Some end
    → (link : LinkRecord) × (to ≡ Some link) × EndsReadingWith from end link
ends_so from mid to before after answer end f r e =
    let same = same_ending before f.0 r.0 (Some end) f.1.bytes f.1.idle (sym e ∙ r.2.ending_is) in (
      record from { read = from.read ++ (f.0 ++ r.0 ∷ []) },
      read_further from mid to f.0 r.0 f.1.read r.1,
      (f.0 ++ r.0 ∷ [], ends_here f.0 r.0 end f.1.goes_on same, one_more_single f.0 r.0 f.1.single r.3, refl),
    )

no_memory_there : (b : Bool) (bytes : List ℕ) → ◌≡◌ {A = Option (Result (List ℕ) HeadFault)} (Some (Err fault.Memory)) (cond b (Some (Ok bytes)) None) → ⊥
no_memory_there true bytes e = cc
no_memory_there false bytes e = cc

no_memory_slow : (b : Bool) → ◌≡◌ {A = Option (Result (List ℕ) HeadFault)} (Some (Err fault.Memory)) (cond b (Some (Err fault.Slow)) None) → ⊥
no_memory_slow true e = cc
no_memory_slow false e = cc

-- no result makes memory run out
no_memory : (bytes : List ℕ) (idle : ℕ) (read : LineRead) → Some (Err fault.Memory) ≡ ending bytes idle read → ⊥
no_memory bytes idle (LineRead.Bytes more) e = no_memory_there (is_whole (bytes ++ more)) (bytes ++ more) e
no_memory bytes idle LineRead.Idle e = no_memory_slow (idle + 1 == 1000) e
no_memory bytes idle LineRead.End e = cc
no_memory bytes idle LineRead.Failed e = cc

pub ends_whole : (from mid to : Option LinkRecord) (before after : HeadReader) (whole : Bool) → whole ≡ true → Follows from before mid → ReadsOn mid before (Ok whole) to after
    → ReadsHeadIfRecorded from (Ok after.bytes.items) to
ends_whole None mid to before after whole is f r = read_none mid to r.0 f r.1
ends_whole (Some from) mid to before after whole is f r =
    ends_so from mid to before after (Ok whole) (Ok after.bytes.items) f r (ap (λ (b : Bool). answer_of (Ok b) after.bytes.items) is)

-- where reading ends with a head, that is whole
whole_at : (b : Bool) (bytes head : List ℕ) → ◌≡◌ {A = Option (Result (List ℕ) HeadFault)} (Some (Ok head)) (cond b (Some (Ok bytes)) None) → (b ≡ true) × (head ≡ bytes)
whole_at true bytes head e = (refl, cc)
whole_at false bytes head e = cc

slow_at : (b : Bool) (head : List ℕ) → ◌≡◌ {A = Option (Result (List ℕ) HeadFault)} (Some (Ok head)) (cond b (Some (Err fault.Slow)) None) → ⊥
slow_at true head e = cc
slow_at false head e = cc

is_whole_at : (bytes : List ℕ) (idle : ℕ) (read : LineRead) (head : List ℕ) → Some (Ok head) ≡ ending bytes idle read → IsTrue (is_whole head)
is_whole_at bytes idle (LineRead.Bytes more) head e =
    let h = whole_at (is_whole (bytes ++ more)) (bytes ++ more) head e in ap is_whole h.1 ∙ h.0
is_whole_at bytes idle LineRead.Idle head e = absurd (slow_at (idle + 1 == 1000) head e)
is_whole_at bytes idle LineRead.End head e = cc
is_whole_at bytes idle LineRead.Failed head e = cc

pub ends_with_whole : (mid to : Option LinkRecord) (before after : HeadReader) (whole : Bool) → whole ≡ true → ReadsOn mid before (Ok whole) to after → IsTrue (is_whole after.bytes.items)
ends_with_whole mid to before after whole is r =
    let some = ap (λ (b : Bool). answer_of (Ok b) after.bytes.items) is in
    is_whole_at before.bytes.items before.idle r.0 after.bytes.items (sym some ∙ r.2.ending_is)

pub ends_refused : (from mid to : Option LinkRecord) (before after : HeadReader) (e : HeadFault) → Follows from before mid → ReadsOn mid before (Err e) to after
    → ReadsHeadIfRecorded from (Err e) to
ends_refused None mid to before after e f r = read_none mid to r.0 f r.1
ends_refused (Some from) mid to before after fault.Ended f r = ends_so from mid to before after (Err fault.Ended) (Err fault.Ended) f r refl
ends_refused (Some from) mid to before after fault.Slow f r = ends_so from mid to before after (Err fault.Slow) (Err fault.Slow) f r refl
ends_refused (Some from) mid to before after fault.LinkFault f r = ends_so from mid to before after (Err fault.LinkFault) (Err fault.LinkFault) f r refl
ends_refused (Some from) mid to before after fault.Memory f r = absurd (no_memory before.bytes.items before.idle r.0 r.2.ending_is)
