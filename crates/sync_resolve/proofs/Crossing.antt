-- All threads may share a resolved program: each part of its tree and of its code may cross, up to the whole.
use denote.Param.Send.{IsSend, IsSync, sendable, struct_send, struct_sync}
use denote.Struct.Declared
use Rattle.std.proofs.Crossing as heap
use Rattle.sqlite_items.specs.contracts.boxed.Boxed as boxed
use Rattle.sync_syntax.proofs.tree.Expr.TheLaws.TheKnot as expr
use Rattle.sync_syntax.proofs.tree.Statement.TheLaws.TheKnot as statement
use Rattle.sync_syntax.specs.contracts.tree.Expr as exprs
use Rattle.sync_syntax.specs.contracts.tree.Declaration as declaration
use Rattle.sync_syntax.specs.contracts.tree.Simple as simple
use Rattle.sync_syntax.specs.contracts.tree.Start as start
use Rattle.sync_syntax.specs.contracts.tree.Statement as statements
use Rattle.sync_syntax.specs.contracts.tree.Program as tree
use Rattle.sync_code.proofs.code.Code.TheLaws.TheKnot as code
use Rattle.sync_code.proofs.code.Step.TheLaws.TheKnot as step
use Rattle.sync_code.specs.contracts.code.Code as codes
use Rattle.sync_code.specs.contracts.code.Opening as opening
use Rattle.sync_code.specs.contracts.code.Plain as plain
use Rattle.sync_code.specs.contracts.code.Begin as begin
use Rattle.sync_code.specs.contracts.code.Step as steps
use Rattle.sync_code.specs.contracts.program.ProgramCode as program
use Rattle.sync_resolve.specs.contracts.program.Resolved as resolved

-- ---- the tree

expr_send : IsSend exprs.the_row
expr_send = search (expr.crosses, heap.crosses, sendable) depth 60 fits 20000

expr_sync : IsSync exprs.the_row
expr_sync = search (expr.crosses, heap.crosses, sendable) depth 60 fits 20000

expr_field_send : IsSend (exprs.the_field).row
expr_field_send = search (expr.crosses, heap.crosses, sendable) depth 60 fits 20000

expr_field_sync : IsSync (exprs.the_field).row
expr_field_sync = search (expr.crosses, heap.crosses, sendable) depth 60 fits 20000

boxed_expr_send : IsSend (boxed.the_row exprs.the_row)
boxed_expr_send = search (expr_send, heap.crosses, sendable) depth 60 fits 20000

boxed_expr_sync : IsSync (boxed.the_row exprs.the_row)
boxed_expr_sync = search (expr_sync, heap.crosses, sendable) depth 60 fits 20000

declaration_send : IsSend declaration.the_row
declaration_send = search (boxed_expr_send, heap.crosses, sendable) depth 60 fits 20000

declaration_sync : IsSync declaration.the_row
declaration_sync = search (boxed_expr_sync, heap.crosses, sendable) depth 60 fits 20000

declaration_field_send : IsSend (declaration.the_field).row
declaration_field_send = search (boxed_expr_send, heap.crosses, sendable) depth 60 fits 20000

declaration_field_sync : IsSync (declaration.the_field).row
declaration_field_sync = search (boxed_expr_sync, heap.crosses, sendable) depth 60 fits 20000

simple_send : IsSend simple.the_row
simple_send = search (boxed_expr_send, expr_field_send, heap.crosses, sendable) depth 60 fits 20000

simple_sync : IsSync simple.the_row
simple_sync = search (boxed_expr_sync, expr_field_sync, heap.crosses, sendable) depth 60 fits 20000

simple_field_send : IsSend (simple.the_field).row
simple_field_send = search (boxed_expr_send, expr_field_send, heap.crosses, sendable) depth 60 fits 20000

simple_field_sync : IsSync (simple.the_field).row
simple_field_sync = search (boxed_expr_sync, expr_field_sync, heap.crosses, sendable) depth 60 fits 20000

start_send : IsSend start.the_row
start_send = search (declaration_field_send, simple_field_send, heap.crosses, sendable) depth 60 fits 20000

start_sync : IsSync start.the_row
start_sync = search (declaration_field_sync, simple_field_sync, heap.crosses, sendable) depth 60 fits 20000

statement_send : IsSend statements.the_row
statement_send = search (expr_field_send, boxed_expr_send, declaration_field_send, simple_send, simple_field_send, start_send, statement.crosses, heap.crosses, sendable) depth 60 fits 20000

statement_sync : IsSync statements.the_row
statement_sync = search (expr_field_sync, boxed_expr_sync, declaration_field_sync, simple_sync, simple_field_sync, start_sync, statement.crosses, heap.crosses, sendable) depth 60 fits 20000

tree_send : IsSend (tree.the_field).row
tree_send = struct_send (Declared.shape tree.the_type) (search (heap.crosses, sendable) depth 60 fits 20000, (search (heap.crosses, sendable) depth 60 fits 20000, (search (heap.crosses, sendable) depth 60 fits 20000, (search (sendable) depth 60 fits 20000, (search (statement_send, heap.crosses, sendable) depth 60 fits 20000, tt)))))

tree_sync : IsSync (tree.the_field).row
tree_sync = struct_sync (Declared.shape tree.the_type) (search (heap.crosses, sendable) depth 60 fits 20000, (search (heap.crosses, sendable) depth 60 fits 20000, (search (heap.crosses, sendable) depth 60 fits 20000, (search (sendable) depth 60 fits 20000, (search (statement_sync, heap.crosses, sendable) depth 60 fits 20000, tt)))))

-- ---- the code

code_send : IsSend codes.the_row
code_send = search (code.crosses, heap.crosses, sendable) depth 60 fits 20000

code_sync : IsSync codes.the_row
code_sync = search (code.crosses, heap.crosses, sendable) depth 60 fits 20000

code_field_send : IsSend (codes.the_field).row
code_field_send = search (code.crosses, heap.crosses, sendable) depth 60 fits 20000

code_field_sync : IsSync (codes.the_field).row
code_field_sync = search (code.crosses, heap.crosses, sendable) depth 60 fits 20000

boxed_code_send : IsSend (boxed.the_row codes.the_row)
boxed_code_send = search (code_send, heap.crosses, sendable) depth 60 fits 20000

boxed_code_sync : IsSync (boxed.the_row codes.the_row)
boxed_code_sync = search (code_sync, heap.crosses, sendable) depth 60 fits 20000

opening_send : IsSend opening.the_row
opening_send = search (boxed_code_send, heap.crosses, sendable) depth 60 fits 20000

opening_sync : IsSync opening.the_row
opening_sync = search (boxed_code_sync, heap.crosses, sendable) depth 60 fits 20000

opening_field_send : IsSend (opening.the_field).row
opening_field_send = search (boxed_code_send, heap.crosses, sendable) depth 60 fits 20000

opening_field_sync : IsSync (opening.the_field).row
opening_field_sync = search (boxed_code_sync, heap.crosses, sendable) depth 60 fits 20000

plain_send : IsSend plain.the_row
plain_send = search (boxed_code_send, code_field_send, heap.crosses, sendable) depth 60 fits 20000

plain_sync : IsSync plain.the_row
plain_sync = search (boxed_code_sync, code_field_sync, heap.crosses, sendable) depth 60 fits 20000

plain_field_send : IsSend (plain.the_field).row
plain_field_send = search (boxed_code_send, code_field_send, heap.crosses, sendable) depth 60 fits 20000

plain_field_sync : IsSync (plain.the_field).row
plain_field_sync = search (boxed_code_sync, code_field_sync, heap.crosses, sendable) depth 60 fits 20000

begin_send : IsSend begin.the_row
begin_send = search (opening_field_send, plain_field_send, heap.crosses, sendable) depth 60 fits 20000

begin_sync : IsSync begin.the_row
begin_sync = search (opening_field_sync, plain_field_sync, heap.crosses, sendable) depth 60 fits 20000

step_send : IsSend steps.the_row
step_send = search (code_field_send, boxed_code_send, opening_field_send, plain_send, plain_field_send, begin_send, step.crosses, heap.crosses, sendable) depth 60 fits 20000

step_sync : IsSync steps.the_row
step_sync = search (code_field_sync, boxed_code_sync, opening_field_sync, plain_sync, plain_field_sync, begin_sync, step.crosses, heap.crosses, sendable) depth 60 fits 20000

program_send : IsSend (program.the_field).row
program_send = struct_send (Declared.shape program.the_type) (search (heap.crosses, sendable) depth 60 fits 20000, (search (heap.crosses, sendable) depth 60 fits 20000, (search (sendable) depth 60 fits 20000, (search (step_send, heap.crosses, sendable) depth 60 fits 20000, (search (sendable) depth 60 fits 20000, (search (sendable) depth 60 fits 20000, tt))))))

program_sync : IsSync (program.the_field).row
program_sync = struct_sync (Declared.shape program.the_type) (search (heap.crosses, sendable) depth 60 fits 20000, (search (heap.crosses, sendable) depth 60 fits 20000, (search (sendable) depth 60 fits 20000, (search (step_sync, heap.crosses, sendable) depth 60 fits 20000, (search (sendable) depth 60 fits 20000, (search (sendable) depth 60 fits 20000, tt))))))

-- ---- the whole

pub resolved_send : IsSend resolved.the_row
resolved_send = search (tree_send, program_send, heap.crosses, sendable) depth 60 fits 20000

pub resolved_sync : IsSync resolved.the_row
resolved_sync = search (tree_sync, program_sync, heap.crosses, sendable) depth 60 fits 20000
