-- `text_view::put_row` meets its contract: the texts that its calls put, one after another.
use native.Mathlib.Omega.{arith}
use borrow.Author.Rules.{rules}
use Rattle.text.specs.Put.{then, written_as, written_wider}
use Rattle.text_view.proofs.ViewRows.{seven, row_is}
use Rattle.text_view.proofs.put_row.Goals as goal

pub returns : goal.returns
returns c =
    let then₁ = then c.put_decimal-a.ensures c.put_words-b.ensures in
    let then₂ = then (then then₁ c.put_payments-c.ensures) c.put_byte.ensures in
    let v = c.args.v in
    let s = c.args.s in
    let e = seven v s c.quantities_in-row.ensures in
    written_wider _ 256 (written_as (row_is v s c.quantities_in-row.ensures) then₂) (omega (arith, e))
