-- `routes::main` is safe: what is read and what is written lies within its buffers. Assumes nothing.
use mathlib.Core.Path.{sym}
use lib.Seq.{length-take-le}
use Rattle.routes.proofs.main.Goals as goal

pub slice_bounds-write_all-end : goal.slice_bounds-write_all-end
slice_bounds-write_all-end c = sym (length-take-le c.respond-len.result c.respond-len.new.out c.respond-len.ensures.inside)
