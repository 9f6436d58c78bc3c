-- `routes::respond` meets its contract: what is printed of the number and the reply is what 01 has printed for the input. Assumes nothing.
use mathlib.Core.Path.{refl, sym, ◌∙◌}
use Rattle.routes.proofs.InputLaws.{faulty_long, output_fault, output_answer, put_output}
use Rattle.routes.proofs.respond.Goals as goal

pub returns-then-is_faulty : goal.returns-then-is_faulty
returns-then-is_faulty c =
    let put = put_output _ _ _ _ _ c.render.ensures (output_fault _ _ (sym c.is_faulty.ensures ∙ c.if-is_faulty.true)) in
    record { text = put.0; inside = put.1 }

pub plan-number-requires : goal.plan-number-requires
plan-number-requires c = faulty_long _ (sym c.is_faulty.ensures ∙ c.if-is_faulty.false)

pub returns : goal.returns
returns c =
    let put = put_output _ _ _ _ _ c.render-2.ensures (output_answer _ (sym c.is_faulty.ensures ∙ c.if-is_faulty.false) refl c.plan-number.ensures) in
    record { text = put.0; inside = put.1 }
