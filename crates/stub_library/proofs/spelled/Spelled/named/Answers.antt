use Rattle.std.proofs.Common.{◌∙◌, ◌++◌, ap, length}
use Rattle.std.specs.List.{flat_map}
use Rattle.stub_library.specs.Spelling.{name_in, spelled_one}
use Rattle.stub_library.proofs.spelled.Spelled.named.Goals as goal

pub returns : goal.returns
returns c =
    let p = c.args.self.now.program.now in
    let ns = c.args.self.now.numbers.items in
    c.in_ok-add_places.ensures ∙ ap (λ js. c.args.out.now.items ++ flat_map (spelled_one p ns c.args.proto.now) js) (c.as_slice.ensures.value ∙ c.in_ok-places.ensures (name_in p ns) (length ns) c.requires.listed)
