use Rattle.std.proofs.Common.{◌≡◌, ◌<◌, ◌^◌, length}
use Rattle.std.specs.List.{AllByRecursion}
use Rattle.line_tables.specs.Text.{Lined}
use Rattle.line_tables.proofs.Shapes.{answer_few, answer_shape}
use Rattle.line_tables.proofs.read.read_lines.Goals as goal

pub returns-clause-few : goal.returns-clause-few
returns-clause-few c = answer_few c.item_of.result c.args.bytes.now c.args.starts.now c.args.at c.args.most c.item_of.ensures

pub returns-clause-counted : goal.returns-clause-counted
returns-clause-counted c =
    answer_shape c.item_of.result c.args.bytes.now c.args.starts.now c.args.at c.args.most (λ lines. length lines.items ≡ length c.args.starts.now) c.item_of.ensures (λ v shape. shape.counted)

pub returns-clause-low : goal.returns-clause-low
returns-clause-low c = answer_shape c.item_of.result c.args.bytes.now c.args.starts.now c.args.at c.args.most (λ lines. AllByRecursion (λ x. x < 2 ^ 31) lines.items) c.item_of.ensures (λ v shape. shape.low)

pub returns-clause-lined : goal.returns-clause-lined
returns-clause-lined c = answer_shape c.item_of.result c.args.bytes.now c.args.starts.now c.args.at c.args.most (λ lines. Lined 0 lines.items) c.item_of.ensures (λ v shape. shape.lined)
