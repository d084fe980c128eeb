-- Checkpoints: side maps whose texts are each that of a user and a client.
use Rattle.std.specs.Prelude.{◌≡◌, ◌≤◌, ◌∷◌, ◌++◌, ℕ, List, length, Option, Some, IsTrue}
use Rattle.sg_names.specs.Grammar.{is_name, is_client}
use Rattle.sg_history.specs.Board.{SideEntry, SideValue, side_at}
use Rattle.checkpoint_store.specs.SideMaps.{IsRising}

-- the text of a user and a client: the user, a zero byte and the client
abbrev pub checkpoint_text : List ℕ → List ℕ → List ℕ
checkpoint_text user client = user ++ 0 ∷ client

-- the checkpoint of a user's client, if there is one
abbrev pub checkpoint_at : List SideEntry → List ℕ → List ℕ → Option SideValue
checkpoint_at side user client = side_at side (checkpoint_text user client)

-- a text is that of a user and a client
pub record IsPairText (text : List ℕ) : Type 0 where
  pub user : List ℕ
  pub client : List ℕ
  pub named : IsTrue (is_name user)
  pub known : IsTrue (is_client client)
  pub joined : text ≡ checkpoint_text user client

-- a user's client has a number from 1 to 2^64 - 1, and a body of at most 4,096 bytes
pub record IsCheckpoint (text : List ℕ) (value : SideValue) : Type 0 where
  pub pair : IsPairText text
  pub first : 1 ≤ value.number
  pub last : value.number ≤ 18446744073709551615
  pub small : length value.bytes ≤ 4096

-- a side map has checkpoints and nothing else, by rising texts, at most 100,000
pub record AreCheckpoints (side : List SideEntry) : Type 0 where
  pub rising : IsRising side
  pub each : (text : List ℕ) (value : SideValue) → side_at side text ≡ Some value → IsCheckpoint text value
  pub count : length side ≤ 100000
