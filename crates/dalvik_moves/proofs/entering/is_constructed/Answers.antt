use Rattle.std.proofs.Common.{◌∙◌, sym}
use Rattle.dalvik_lookups.proofs.Facing.{class_of}
use Rattle.dalvik_moves.proofs.Created.{makes_constructed, makes_kept}
use Rattle.dalvik_moves.proofs.entering.is_constructed.Goals as goal

pub returns-then-keeps_class : goal.returns-then-keeps_class
returns-then-keeps_class c = λ o t r reach there.
    let l = c.args.tables.now.lookups in
    let k = class_of l.program.now t c.args.class there in
    let is = c.kind_of_class-kind.ensures r k.class k.is in
    makes_kept l r o c.args.class t there c.kind_of_class-kind.result (is.text ∙ k.text) (sym c.if-keeps_class.true ∙ c.keeps_class.ensures l.program.now o l.types reach.classes is.kind)

pub returns : goal.returns
returns c = λ o t r reach there.
    let l = c.args.tables.now.lookups in
    let k = class_of l.program.now t c.args.class there in
    let is = c.kind_of_class-kind.ensures r k.class k.is in
    makes_constructed l r o c.args.class t there c.kind_of_class-kind.result c.keeps_constructor_of.result (is.text ∙ k.text) (sym c.if-keeps_class.false ∙ c.keeps_class.ensures l.program.now o l.types reach.classes is.kind)
    (c.keeps_constructor_of.ensures l.program.now o l.types reach.constructed is.kind)
