-- The messages that may send, by their stamps.
use Rattle.std.specs.Prelude.{◌≡◌, ℕ, Bool, true, false, List}
use Rattle.std.specs.BinaryHeap.{heap_items, heap_len, heap_capacity}
use Rattle.std.specs.declared.cmp.Reverse.{Reverse}
use Rattle.blip_mux.specs.declared.ready.Ready.{Ready}
use Rattle.blip_mux.specs.declared.ready.ReadyMessage.{ReadyMessage}
use Rattle.blip_mux.specs.inner.Stamps.{times, IsLowest}

-- the stamps of the urgent messages, or of the others
abbrev pub stamps_in : Bool → Ready → List (Reverse ℕ)
stamps_in true r = heap_items r.urgent.heap
stamps_in false r = heap_items r.plain.heap

-- how many they are
abbrev pub count_in : Bool → Ready → ℕ
count_in true r = heap_len r.urgent.heap
count_in false r = heap_len r.plain.heap

-- for how many there is room
abbrev pub room_in : Bool → Ready → ℕ
room_in true r = heap_capacity r.urgent.heap
room_in false r = heap_capacity r.plain.heap

-- no urgent message is before an urgent one, nor any before another
abbrev pub NoneUrgent : Bool → Ready → Type 0
NoneUrgent true r = Unit {0}
NoneUrgent false r = (q : ℕ) → times q (stamps_in true r) ≡ 0

-- the message that sends next
abbrev pub IsFirst : ReadyMessage → Ready → Type 0
IsFirst turn r = IsLowest turn.stamp (stamps_in turn.urgent r) × NoneUrgent turn.urgent r
