-- what the server keeps while jobs are made and joined
use Rattle.std.proofs.Common.{◌≡◌, ◌≤◌, ◌<◌, ◌+◌, ◌^◌, ◌∙◌, ℕ, List, [], ◌∷◌, ◌++◌, slice_get, Option, None, Some, inl, refl, sym, ap, subst, arith}
use Rattle.atomic_table.specs.Seated.{TableId}
use Rattle.sg_outside.specs.Wire.{LinkRecord, no_line}
use Rattle.sg_lines.specs.Line.{TraceRecord}
use Rattle.sg_history.specs.declared.room.RoomFor.{RoomFor}
use Rattle.sg_history.specs.declared.book.Waiting.{Waiting}
use Rattle.sg_history.specs.Board.{BoardState, IsAfterAll}
use Rattle.seq_gate.specs.Passes.{first_pass, joined_passes, share, split_from, split_off}
use Rattle.seq_gate.specs.Views.{PassView}
use Rattle.seq_gate.specs.declared.known.Known.{Known}
use Rattle.gateway_config.specs.declared.config.Config.{Config}
use Rattle.gateway_server.specs.declared.serve.NoJob.{NoJob}
use Rattle.gateway_server.specs.declared.serve.NoJob.TheVariants.{Spent}
use Rattle.write_path.specs.Reads.{IsLaterThanAll, IsOneOf}
use Rattle.write_path.specs.Origins.{Origin}
use Rattle.write_path.specs.Shared.{Rests, Shared, shared_origin}
use Rattle.session_threads.proofs.Closing.{after_parts, later_parts}
use Rattle.session_server.specs.inner.Runs.{Holds, IsCallLeft, IsCallerDone, IsKept, IsSplit}

module _ (opened : BoardState) where
  -- ---- the first of the boards that were read

  pub one_at_first : (read : List BoardState) → slice_get read 0 ≡ Some opened → IsOneOf read opened
  one_at_first [] is = absurd cc
  one_at_first (b ∷ read) is = inl (some_is is)
    where
      board_in : Option BoardState → BoardState
      board_in None = b
      board_in (Some x) = x

      some_is : Some b ≡ Some opened → b ≡ opened
      some_is is = ap board_in is

  first_stays : (read more : List BoardState) → slice_get read 0 ≡ Some opened → slice_get (read ++ more) 0 ≡ Some opened
  first_stays [] more is = absurd cc
  first_stays (b ∷ read) more is = is

  -- ---- at first

  pub kept_first : (gate : TableId) (pass : PassView) → pass.gate ≡ gate → pass.knows ≡ first_pass opened → IsKept opened gate pass 0 None 0
  kept_first gate pass here first = record {
    here = here;
    rests = subst (λ (k : Known). Rests k) (sym first) (record { held = refl; rooms = refl });
    share_is = let s = ap share first in omega (arith, s);
    opening = ap (λ (k : Known). k.opening) first;
    read = ap (λ (k : Known). slice_get k.read 0) first;
    left = let l = ap (λ (k : Known). k.left) first in omega (arith, l);
    spent = λ is. absurd cc;
  }

  pub holds_first : (config : Config) (p : Known) → p ≡ first_pass opened → Holds opened config p []
  holds_first config p first = record { calls = []; are = tt; own = ap (λ (k : Known). k.own) first; later = λ h all. tt; after = λ b all. tt }

  -- ---- a job is made

  module _ (gate : TableId) (pass now other : PassView) (out callers : ℕ) (refused : Option NoJob) (kept : IsKept opened gate pass out refused callers)
      (gates : (now.gate ≡ pass.gate) × (other.gate ≡ pass.gate)) (from : now.knows ≡ split_from pass.knows) (off : other.knows ≡ split_off pass.knows) (enough : 2 ^ 33 ≤ pass.knows.left) where
    pub kept_split : (more out_now : ℕ) → more ≡ callers + 1 → out_now ≡ out + 1 → IsKept opened gate now out_now refused more
    kept_split more out_now one raised = record {
      here = gates.0 ∙ kept.here;
      rests = subst (λ (k : Known). Rests k) (sym from) (record { held = kept.rests.held; rooms = kept.rests.rooms });
      share_is = let s = ap share from in let was = kept.share_is in omega (arith, s, was, raised, enough);
      opening = ap (λ (k : Known). k.opening) from ∙ kept.opening;
      read = ap (λ (k : Known). slice_get k.read 0) from ∙ kept.read;
      left = let l = ap (λ (k : Known). k.left) from in let was = kept.left in omega (arith, l, was, one, enough);
      spent = λ is. let most = kept.spent is in omega (arith, most, one);
    }

    pub split_is : IsSplit opened other.knows
    split_is = subst (λ (k : Known). IsSplit opened k) (sym off) (record { share_is = omega arith; own = refl; read = one_at_first pass.knows.read kept.read })

    pub few_out : out < 2 ^ 30
    few_out = let was = kept.share_is in omega (arith, was, enough)

  pub kept_spent : (gate : TableId) (pass : PassView) (out callers : ℕ) (refused : Option NoJob) → IsKept opened gate pass out refused callers → pass.knows.left < 2 ^ 33 → IsKept opened gate pass out (Some Spent) callers
  kept_spent gate pass out callers refused kept few = record {
    here = kept.here;
    rests = kept.rests;
    share_is = kept.share_is;
    opening = kept.opening;
    read = kept.read;
    left = kept.left;
    spent = λ is. let l = kept.left in omega (arith, l, few);
  }

  pub holds_split : (config : Config) (p q : Known) (traces : List (Option TraceRecord)) → q ≡ split_from p → Holds opened config p traces → Holds opened config q traces
  holds_split config p q traces from was = record {
    calls = was.calls;
    are = was.are;
    own = ap (λ (k : Known). k.own) from ∙ was.own;
    later = λ h all. was.later h (subst (λ (k : Known). IsLaterThanAll k.read h) from all);
    after = λ b all. was.after b (subst (λ (k : Known). IsAfterAll k.read b) from all);
  }

  -- ---- a job is joined

  pub kept_join : (gate : TableId) (pass now other : PassView) (out out_now callers : ℕ) (refused : Option NoJob) → IsKept opened gate pass out refused callers → now.gate ≡ pass.gate → now.knows ≡ joined_passes pass.knows other.knows → Rests other.knows → share other.knows ≡ 2 ^ 32
      → out ≡ out_now + 1 → IsKept opened gate now out_now refused callers
  kept_join gate pass now other out out_now callers refused kept gates is rests all lowered = record {
    here = gates ∙ kept.here;
    rests = subst (λ (k : Known). Rests k) (sym is)
        (record { held = ap (λ (ns : List ℕ). ns ++ other.knows.held) kept.rests.held ∙ rests.held; rooms = ap (λ (rs : List RoomFor). rs ++ other.knows.rooms) kept.rests.rooms ∙ rests.rooms });
    share_is = let s = ap share is in let was = kept.share_is in omega (arith, s, was, lowered, all);
    opening = ap (λ (k : Known). k.opening) is ∙ kept.opening;
    read = ap (λ (k : Known). slice_get k.read 0) is ∙ first_stays pass.knows.read other.knows.read kept.read;
    left = let l = ap (λ (k : Known). k.left) is in let was = kept.left in omega (arith, l, was);
    spent = kept.spent;
  }

  pub holds_join : (config its_config : Config) (p now : Known) (before after : Shared) (other : PassView) (line : Option LinkRecord) (trace : Option TraceRecord) (traces : List (Option TraceRecord))
      → Holds opened config p traces → other.knows ≡ after.knows → now ≡ joined_passes p other.knows → IsSplit opened before.knows → IsCallerDone its_config before line after trace → its_config ≡ config → line ≡ Some no_line → Holds opened config now (trace ∷ traces)
  holds_join config its_config p now before after other line trace traces was same is split done config_is fresh =
      let left : IsCallLeft config before.knows trace other.knows =
      subst (λ (k : Known). IsCallLeft config before.knows trace k) (sym same) (subst (λ (c : Config). IsCallLeft c before.knows trace after.knows) config_is (done.left fresh)) in
      record {
        calls = record { before = before.knows; knows = other.knows; stored = left.0 } ∷ was.calls;
        are = (record { split = split; left = left.1 }, was.are);
        own = ap (λ (k : Known). k.own) is ∙ ap (λ (ws : List Waiting). ws ++ other.knows.own) was.own;
        later = λ h all. let both = later_parts p.read other.knows.read h (subst (λ (k : Known). IsLaterThanAll k.read h) is all) in (both.1, was.later h both.0);
        after = λ b all. let both = after_parts p.read other.knows.read b (subst (λ (k : Known). IsAfterAll k.read b) is all) in (both.1, was.after b both.0);
      }

-- a ground of the same gate, with as many draws
pub same_gate : (before after : Shared) → shared_origin after ≡ shared_origin before → after.gate ≡ before.gate
same_gate before after same = ap (λ (o : Origin). gate_in o.gate) same
  where
    gate_in : Option TableId → TableId
    gate_in None = before.gate
    gate_in (Some g) = g
