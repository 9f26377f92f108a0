use Rattle.nd_script.proofs.lines.Answers.{pushes_same, pushes_trans}
use Rattle.nd_commands.proofs.fault.push_statement_fault.Goals as goal

pub returns-in-Format : goal.returns-in-Format
returns-in-Format g c = rw c.in-Format.is (pushes_trans c.push_text.ensures c.push_format_fault.ensures)

pub returns-in-Npy : goal.returns-in-Npy
returns-in-Npy g c = rw c.in-Npy.is (pushes_trans c.push_text-in-Npy.ensures c.push_npy_fault.ensures)

pub returns-in-View : goal.returns-in-View
returns-in-View g c = rw (c.in-View.is, ← c.view_name.ensures) (pushes_trans c.push_text-in-View.ensures c.push_text-in-View-2.ensures)

pub returns-in-Index : goal.returns-in-Index
returns-in-Index g c = rw c.in-Index.is (pushes_trans c.push_text-in-Index.ensures c.push_index_fault.ensures)

pub returns-in-Shape : goal.returns-in-Shape
returns-in-Shape g c = rw c.in-Shape.is (pushes_same c.shape_words.ensures (pushes_trans c.push_text-in-Shape.ensures c.push_text-in-Shape-2.ensures))

pub returns-in-Ufunc : goal.returns-in-Ufunc
returns-in-Ufunc g c = rw c.in-Ufunc.is (pushes_trans c.push_text-in-Ufunc.ensures c.push_ufunc_fault.ensures)

pub returns-in-Reduce : goal.returns-in-Reduce
returns-in-Reduce g c = rw (c.in-Reduce.is, ← c.reduce_name.ensures) (pushes_trans c.push_text-in-Reduce.ensures c.push_text-in-Reduce-2.ensures)

pub returns-in-Stmt : goal.returns-in-Stmt
returns-in-Stmt g c = rw c.in-Stmt.is (pushes_trans c.push_text-in-Stmt.ensures c.push_statement_error.ensures)
