use Rattle.std.proofs.Common.{◌≡◌, ◌<◌, ◌≤◌, length, sym, ◌∙◌, arith}
use Rattle.std.specs.Prelude.{nat_lt}
use Rattle.std.proofs.lemmas.Bool.{le-ltb}
use Rattle.code_read.proofs.Rises.{search_in, none_behind}
use Rattle.code_read.proofs.positions.is_payload.Goals as goal

pub returns-then-unit-lt4294967296 : goal.returns-then-unit-lt4294967296
returns-then-unit-lt4294967296 c =
    let p = rw c.as_slice.ensures.value at c.binary_search.ensures.position in
    c.is_ok.ensures.value ∙ search_in (length c.args.places.now.units.now) c.args.places.now.payloads.items c.args.unit c.binary_search.result c.args.places.now.payloads_rise p

pub returns-else-unit-lt4294967296 : goal.returns-else-unit-lt4294967296
returns-else-unit-lt4294967296 c =
    le-ltb c.args.unit 4294967296 c.if-unit-lt4294967296.false
    ∙ none_behind (length c.args.places.now.units.now) c.args.places.now.payloads.items c.args.unit c.args.places.now.payloads_rise (omega (arith, c.args.places.now.few, c.if-unit-lt4294967296.false))
