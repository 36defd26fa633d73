-- The body that is read of a code item is the one that it spells.
use Rattle.std.proofs.Common.{◌<◌, ◌+◌, ◌*◌, ◌^◌, ℕ, List, drop, refl, sym, subst, ◌∙◌, arith}
use Rattle.dex_base.specs.Decides.{Entries}
use Rattle.code_read.specs.declared.sizes.Sizes.{Sizes}
use Rattle.code_read.specs.Code.{code_of}
use Rattle.dex_defs.specs.Sweep.{places_of}
use Rattle.dex_defs.specs.Handlers.{IsTry, covering, AreRegions}
use Rattle.dex_defs.specs.CodeItems.{Frame, tries_at}
use Rattle.file_laws.specs.Founds.{Founds}
use Rattle.file_laws.specs.Items.{HasItem, IsItemBody}
use Rattle.file_laws.proofs.Founding.{weaker}
use Rattle.file_laws.proofs.Bodies.{founds_code}
use Rattle.file_laws.proofs.Trying.{founds_regions}

pub founds_item : (bytes : List ℕ) (at : ℕ) (f : Frame) (units : List ℕ) (sizes : Sizes) → HasItem bytes at f units sizes → f.size < 2 ^ 32 → Founds (IsItemBody bytes sizes.types at f) (code_of units (drop (tries_at at f) bytes) sizes)
founds_item bytes at f units sizes has few = weaker (code_of units (drop (tries_at at f) bytes) sizes) (founds_code units (drop (tries_at at f) bytes) sizes (omega (arith, few, has.many)))
    (λ y h.
    let places = places_of units h.pieces in
    let r = (founds_regions bytes (tries_at at f) sizes places).found y.0.regions h.regions in
    record {
      places = places;
      starts = h.starts;
      code = record {
        frame = has.frame;
        registers = sym (h.registers ∙ has.registers);
        ins = sym (h.ins ∙ has.ins);
        units = units;
        many = has.many;
        are_units = has.are_units;
        pieces = h.pieces;
        swept = h.swept;
        placed = refl;
        insns = h.insns;
        tries = r.tries;
        are_tries = subst (λ n. Entries n (λ i. IsTry bytes (tries_at at f + 8 * i)) r.tries) has.tries r.are_tries;
        regions = subst (λ n. AreRegions bytes places (tries_at at f + 8 * n) sizes.types (covering places r.tries) y.0.regions) has.tries r.regions_are;
      };
    })
