use Rattle.verify.specs.Descriptors.{AreTypesOf}
use Rattle.verify.specs.declared.tables.Tables.{Tables}
use Rattle.verify.proofs.Kept.{chains_kept, types_kept}
use Rattle.verify.proofs.tables.Tables.make.Goals as goal

pub returns-clause-chains : goal.returns-clause-chains
returns-clause-chains c = λ w of.
    let of_types = c.in_ok-types.types in
    let of_names = c.in_ok-names.names in
    let t : Tables = record { chains = c.in_ok-chains.chains; classes = of_names.classes; shapes = of_types.shapes; bases = of_types.bases; items = of_types.items; object = of_types.object; words = of_types.words; constructors = of_names.constructors } in
    let types : AreTypesOf c.args.program.now t = record {
      classes = c.in_ok-names.ensures.classes;
      shapes = c.in_ok-types.ensures.shapes;
      bases = c.in_ok-types.ensures.bases;
      items = c.in_ok-types.ensures.items;
      object = c.in_ok-types.ensures.object;
      words = c.in_ok-types.ensures.words;
      constructors = c.in_ok-names.ensures.constructors;
    } in
    chains_kept c.args.program.now c.args.hierarchy.now t w of c.in_ok-chains.ensures.made c.in_ok-chains.ensures.short types c.checked.result c.checked.ensures.kept

pub returns-clause-types : goal.returns-clause-types
returns-clause-types c = λ w of.
    let of_types = c.in_ok-types.types in
    let of_names = c.in_ok-names.names in
    let t : Tables = record { chains = c.in_ok-chains.chains; classes = of_names.classes; shapes = of_types.shapes; bases = of_types.bases; items = of_types.items; object = of_types.object; words = of_types.words; constructors = of_names.constructors } in
    let types : AreTypesOf c.args.program.now t = record {
      classes = c.in_ok-names.ensures.classes;
      shapes = c.in_ok-types.ensures.shapes;
      bases = c.in_ok-types.ensures.bases;
      items = c.in_ok-types.ensures.items;
      object = c.in_ok-types.ensures.object;
      words = c.in_ok-types.ensures.words;
      constructors = c.in_ok-names.ensures.constructors;
    } in
    types_kept c.args.program.now c.args.hierarchy.now t w of c.in_ok-chains.ensures.made c.in_ok-chains.ensures.short types c.checked.result c.checked.ensures.kept
