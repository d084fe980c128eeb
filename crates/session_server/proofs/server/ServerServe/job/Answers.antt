use denote.Param.Send.{sendable}
use Rattle.std.proofs.Common.{rules, arith, length, subst, sym}
use Rattle.seq_gate.specs.declared.known.Known.{Known}
use Rattle.write_path.proofs.Crossing.{shelf_send}
use Rattle.write_path.specs.Shelf.{shelf_state}
use Rattle.session_server.specs.inner.Lines.{lines_in}
use Rattle.session_server.specs.inner.Runs.{IsSplit}
use Rattle.session_server.specs.declared.server.Lines.{the_lemmas}
use Rattle.session_server.proofs.Holding.{split_is}
use Rattle.session_server.proofs.server.ServerServe.job.Goals as goal

pub left-requires-send-B : goal.left-requires-send-B
left-requires-send-B g c κs = search (shelf_send, sendable) depth 20

pub split-pass-requires-send-B : goal.split-pass-requires-send-B
split-pass-requires-send-B g c κs = search (shelf_send, sendable) depth 20

pub returns-clause-made : goal.returns-clause-made
returns-clause-made g c = record {
  here = search rules;
  split = subst (λ (k : Known). IsSplit (shelf_state c.args.self.now.opened.value) k) (sym c.new.ensures.knows)
      (split_is (shelf_state c.args.self.now.opened.value) c.args.self.now.gate.now c.args.self.now.pass c.split-pass.new.self c.split-pass.result c.args.self.now.out (length (lines_in c.args.self.now.lines)) c.args.self.now.refused c.args.self.now.kept c.split-pass.ensures.gate
      c.split-pass.ensures.knows c.split-pass.ensures.other (let low = c.if-left-lt-LEAST_DRAWS.false in let left = c.left.ensures in omega (arith, low, left)));
  config_is = search rules;
  fresh = search (rules, the_lemmas);
}
