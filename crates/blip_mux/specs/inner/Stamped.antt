-- The messages that wait, by their stamps.
use Rattle.std.specs.Prelude.{◌≡◌, ℕ, ◌<◌, ◌≤◌, Bool, true, ◌&&◌, cond, length, Option, Some, None, ◌==◌, List, [], ◌∷◌, ◌++◌}
use Rattle.std.specs.Option.{option_map_or}
use Rattle.std.specs.List.{sum_by}
use Rattle.std.specs.List.Sorted.{IsStrictlySortedBy}
use Rattle.std.specs.Map.{keys_of, values_of}
use Rattle.std.specs.Ordering.{nat_cmp}
use Rattle.blip_frame.specs.Checksum.{checksum}
use Rattle.blip_frame.specs.Frame.{spelling, payload_sent_after, value_after, WritesAfter}
use Rattle.blip_mux.specs.Sending.{Waiting, may_send, chosen, first_piece, without_piece}
use Rattle.blip_mux.specs.inner.Entries.{Entries, look, without}
use Rattle.blip_mux.specs.declared.class.Class.{Class}
use Rattle.blip_mux.specs.inner.Class.{is_in, stamp_at}
use Rattle.blip_mux.specs.inner.Stamps.{times, IsLowest, same_flag}
use Rattle.blip_mux.specs.inner.Ready.{stamps_in, count_in, room_in}
use Rattle.blip_mux.specs.declared.index.Index.{Index}
use Rattle.blip_mux.specs.declared.ready.Ready.{Ready}
use Rattle.blip_mux.specs.declared.ready.ReadyMessage.{ReadyMessage}
use Rattle.blip_mux.specs.declared.stamped.Stamped.{Stamped}

-- whether a message has this class and this number
abbrev pub is_message : Class → ℕ → Waiting → Bool
is_message class number w = is_in class w.kind && w.number == number

-- how many turns a message has among the urgent ones, or among the others: one where it may send
abbrev pub turns : Bool → Waiting → ℕ
turns urgent w = cond (same_flag w.urgent urgent && may_send w) 1 0

-- The stamps ascend up to the next one; a stamp stands at a class and a number just where its message has them; and each message that may send has its turn, with room for those of all messages.
pub record IsKept (es : Entries) (next : ℕ) (at : Class → ℕ → Option ℕ) (turns_of : Ready) : Type 0 where
  pub sorted : IsStrictlySortedBy nat_cmp (keys_of es)
  pub below : (q : ℕ) → next ≤ q → look es q ≡ None
  pub found : (c : Class) (n q : ℕ) → at c n ≡ Some q → (w : Waiting) × (look es q ≡ Some w) × (is_message c n w ≡ true)
  pub known : (c : Class) (n q : ℕ) (w : Waiting) → look es q ≡ Some w → is_message c n w ≡ true → at c n ≡ Some q
  pub ready : (u : Bool) (q : ℕ) → times q (stamps_in u turns_of) ≡ option_map_or (turns u) (look es q) 0
  pub counted : (u : Bool) → count_in u turns_of ≡ sum_by (turns u) (values_of es)
  pub room : (u : Bool) → length es ≤ room_in u turns_of

-- the stamp that an index has at a class and a number
abbrev pub stamp_in : Index → Class → ℕ → Option ℕ
stamp_in index class number = stamp_at class number index.requests index.replies

-- the messages, in their order
abbrev pub listed : Stamped → List Waiting
listed s = values_of s.messages.entries

abbrev pub listed_without : ℕ → Stamped → List Waiting
listed_without stamp s = values_of (without stamp s.messages.entries)

-- the message of a stamp
abbrev pub message_at : Stamped → ℕ → Option Waiting
message_at s stamp = look s.messages.entries stamp

-- the stamp that stands at a class and a number
abbrev pub stands : Class → ℕ → Stamped → Option ℕ
stands class number s = stamp_at class number s.index.requests s.index.replies

abbrev pub Keeps : Stamped → Type 0
Keeps s = IsKept s.messages.entries s.next (λ c n. stamp_at c n s.index.requests s.index.replies) s.ready

-- there is a stamp for one more message, and room for its turn
pub record HasRoom (s : Stamped) : Type 0 where
  pub stamp : s.next < 18446744073709551615
  pub turns : (u : Bool) → length s.messages.entries < room_in u s.ready

-- the message that sends next has this turn
pub record IsNextReady (turn : ReadyMessage) (s : Stamped) : Type 0 where
  pub message : Waiting
  pub there : look s.messages.entries turn.stamp ≡ Some message
  pub mark : message.urgent ≡ turn.urgent
  pub lowest : IsLowest turn.stamp (stamps_in turn.urgent s.ready)
  pub may : may_send message ≡ true
  pub first : chosen (values_of s.messages.entries) ≡ Some (message, values_of (without turn.stamp s.messages.entries))

-- The next frame of the message that had this turn has gone, and the message was moved to the next stamp; its stamp in the index and its turn are still those from before.
pub record IsMoved (turn : ReadyMessage) (s : Stamped) : Type 0 where
  pub before : Entries
  pub message : Waiting
  pub kept : IsKept before s.next (λ c n. stamp_at c n s.index.requests s.index.replies) s.ready
  pub there : look before turn.stamp ≡ Some message
  pub mark : message.urgent ≡ turn.urgent
  pub lowest : IsLowest turn.stamp (stamps_in turn.urgent s.ready)
  pub may : may_send message ≡ true
  pub moved : s.messages.entries ≡ without turn.stamp before ++ (s.next, without_piece message) ∷ []
  pub ordered : IsStrictlySortedBy nat_cmp (keys_of s.messages.entries)

-- The next frame of a message was put at the end and taken into the checksum, also that of all bytes that were sent before.
pub record Writes (w : Waiting) (before after : ℕ) (old new : List ℕ) : Type 0 where
  pub frame : new ≡ old ++ spelling (value_after before (first_piece w)) (first_piece w)
  pub value : after ≡ value_after before (first_piece w)
  pub sent : (sent : List ℕ) → before ≡ checksum sent → WritesAfter sent old new (first_piece w) × (after ≡ checksum (payload_sent_after sent (first_piece w)))
