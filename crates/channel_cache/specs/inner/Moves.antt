-- The documents that a replaced sync function moves. Only proofs and the lists' own functions need it.
use Rattle.std.specs.Prelude.{◌+◌, ℕ, nat_eq, Bool, not, ◌&&◌, ◌||◌, List, [], ◌∷◌, ◌++◌, length, Option, Some, None, if◌then◌else◌}
use Rattle.std.specs.List.{list_any}
use Rattle.std.specs.Str.{bytes_eq}
use Rattle.sg_history.specs.declared.entries.Entry.{Entry}
use Rattle.sg_history.specs.declared.entries.Mark.{Mark}
use Rattle.sg_history.specs.declared.entries.Write.{Write}
use Rattle.sg_history.specs.History.{among}
use Rattle.sg_history.specs.Current.{effects_of}
use Rattle.sg_history.specs.View.{every}
use Rattle.log_index.specs.declared.documents.Document.{Document}
use Rattle.log_index.specs.Marks.{is_mark, marked_up_to, write_of}
use Rattle.log_index.specs.Places.{document_at}
use Rattle.channel_cache.specs.declared.moved.Moved.{Moved}

-- the channels of the effects of a write of this sequence, none where there is no write
abbrev pub channels_by : List Entry → ℕ → Option Write → List (List ℕ)
channels_by es seq None = []
channels_by es seq (Some w) = (effects_of es (record { seq = seq; write = w })).channels

-- the same of the entry of a sequence
abbrev pub channels_at : List Entry → ℕ → List (List ℕ)
channels_at es seq = channels_by es seq (write_of es seq)

-- a document by the sequence of its last write, with the channels that it was in, and those that it is in
pub record Move : Type 0 where
  pub last : ℕ
  pub before : List (List ℕ)
  pub after : List (List ℕ)

abbrev pub move_in : Moved → Move
move_in m = record { last = m.last; before = m.before.now; after = m.after.now }

-- what there is
abbrev pub optional : {X : Type 0} → Option X → List X
optional None = []
optional (Some x) = x ∷ []

-- what a mark of the newest entry moves, by the older ones, all, and where its document stands: nothing but where it has the effects
-- of the document's winner
abbrev pub move_by : List Entry → List Entry → Mark → ℕ → Option Document → List Move
move_by older es mark number None = []
move_by older es mark number (Some d) =
    if is_mark (marked_up_to es d.winning (length es)) (length es) number
    then record { last = d.last; before = channels_at older d.winning; after = mark.channels } ∷ []
    else []

abbrev pub move_of : List Entry → List Entry → Mark → ℕ → List Move
move_of older es mark number = move_by older es mark number (document_at es mark.doc)

-- what these marks move, of which the first has this number
abbrev pub moves_of : List Entry → List Entry → List Mark → ℕ → List Move
moves_of older es [] number = []
moves_of older es (mark ∷ marks) number = move_of older es mark number ++ moves_of older es marks (number + 1)

-- whether one of these leaves the list of a channel, other than `*`, by this sequence
abbrev pub leaves : List Move → List ℕ → ℕ → Bool
leaves moves channel seq = list_any (λ m. (among m.before channel && not (bytes_eq every channel)) && nat_eq seq m.last) moves

-- whether one of these enters it
abbrev pub enters : List Move → List ℕ → ℕ → Bool
enters moves channel seq = list_any (λ m. among m.after channel && nat_eq seq m.last) moves

abbrev pub left_by : List Move → List ℕ → ℕ → Bool → Bool
left_by moves channel seq before = before && not (leaves moves channel seq)

abbrev pub entered_by : List Move → List ℕ → ℕ → Bool → Bool
entered_by moves channel seq before = before || enters moves channel seq
