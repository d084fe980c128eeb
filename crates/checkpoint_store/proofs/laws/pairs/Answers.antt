use Rattle.std.proofs.Common.{ℕ, List, arith}
use Rattle.std.specs.Prelude.{IsTrue}
use Rattle.sg_names.specs.Grammar.{is_plain, lacks}
use Rattle.checkpoint_store.proofs.Pairs.{pair_same, put_here, put_other}
use Rattle.checkpoint_store.proofs.laws.pairs.Goals as goal

pub returns : goal.returns
returns c =
    let lacks_zero : (text : List ℕ) → IsTrue (is_plain text) → IsTrue (lacks 0 text) = λ text plain. c.plain_texts.ensures.lacks_controls 0 text (omega arith) plain in
    record {
      one = pair_same lacks_zero;
      put = put_here;
      others = put_other lacks_zero;
    }
