-- The examples: what computes is refl, and bounds are decided.
use Rattle.std.proofs.Common.{◌≡◌, ◌≤◌, ◌<◌, ◌+◌, ℕ, List, [], ◌∷◌, take, drop, refl, arith}
use Rattle.std.proofs.lemmas.List.Elements.{All-nil}
use Rattle.std.specs.Prelude.{map}
use Rattle.dex_base.specs.Word.{Is32}
use Rattle.dex_base.specs.Adler.{adler_of}
use Rattle.insn_set.specs.declared.format.Format.TheVariants.{F31t, F10x}
use Rattle.code_read.specs.Opcodes.{format_at}
use Rattle.code_read.specs.Forms.{plain}
use Rattle.relax.specs.Sizes.{HasRoom, Below}
use Rattle.dex_pools.specs.Spelled.{SpellsPools, IsExtent}
use Rattle.dex_defs.proofs.Computing.{at_most, is_32}
use Rattle.dex_defs.specs.Header.{IsHeader}
use Rattle.dex_defs.specs.Spells.{Spells, pools_of}
use Rattle.dex_defs.specs.Parts.{Short, Bytes}
use Rattle.dex_defs.specs.Placed.{Tables, TheHeader}
use Rattle.dex_defs.specs.ClassFaults.{HasFault, BadPart}
use Rattle.dex_defs.specs.Sweep.{Piece, IsSwept, places_of, instructions}
use Rattle.dex_defs.specs.Instructions.{AreInsns, Packed, Plain}
use Rattle.dex_defs.specs.LaysOut.{AreSizes, IsNear, step_of, LaysOutBody}
use Rattle.dex_defs.specs.Examples.{empty_program, unsigned_file, switch_body, switch_insns, switch_units, switch_sizes}

sum : adler_of (drop 12 unsigned_file) ≡ 0x0f2f0391
unfolding adler_of
sum = refl

header : IsHeader unsigned_file empty_program.version
unfolding adler_of
header = record {
  whole = at_most 112 140 refl;
  magic = refl;
  checksum = is_32 unsigned_file 8 0x0f2f0391 refl refl;
  file_size = is_32 unsigned_file 32 140 refl refl;
  header_size = is_32 unsigned_file 36 112 refl refl;
  endian_tag = is_32 unsigned_file 40 0x12345678 refl refl;
  link_size = is_32 unsigned_file 44 0 refl refl;
}

none_stands : (at width : ℕ) → Is32 unsigned_file at 0 → Is32 unsigned_file (at + 4) 0 → IsExtent unsigned_file at width (record { size = 0; offset = 0 })
none_stands at width size offset = record { size = size; offset = offset; inside = λ h. absurd (no h) }
  where
    no : 0 < 0 → ⊥
    no h = grind arith

pools : SpellsPools unsigned_file 16777216 (pools_of empty_program)
pools = record {
  tables = record { strings = record { size = 0; offset = 0 }; types = record { size = 0; offset = 0 }; protos = record { size = 0; offset = 0 }; fields = record { size = 0; offset = 0 }; methods = record { size = 0; offset = 0 } };
  stand = record {
    strings = none_stands 56 4 (is_32 unsigned_file 56 0 refl refl) (is_32 unsigned_file 60 0 refl refl);
    types = none_stands 64 4 (is_32 unsigned_file 64 0 refl refl) (is_32 unsigned_file 68 0 refl refl);
    protos = none_stands 72 12 (is_32 unsigned_file 72 0 refl refl) (is_32 unsigned_file 76 0 refl refl);
    fields = none_stands 80 8 (is_32 unsigned_file 80 0 refl refl) (is_32 unsigned_file 84 0 refl refl);
    methods = none_stands 88 8 (is_32 unsigned_file 88 0 refl refl) (is_32 unsigned_file 92 0 refl refl);
  };
  strings = (refl, tt);
  strings_ascend = tt;
  units = at_most 0 16777216 refl;
  types = (refl, tt);
  types_ascend = tt;
  protos = (refl, tt);
  protos_ascend = tt;
  items = at_most 0 16777216 refl;
  fields = (refl, tt);
  fields_ascend = tt;
  methods = (refl, tt);
  methods_ascend = tt;
}

pub spelled : Spells unsigned_file empty_program
spelled = record {
  header = header;
  pools = pools;
  table = record { size = 0; offset = 0 };
  stands = none_stands 96 32 (is_32 unsigned_file 96 0 refl refl) (is_32 unsigned_file 100 0 refl refl);
  classes = (refl, tt);
}

pub short : HasFault (take 111 unsigned_file) (Short 0)
short = BadPart (Bytes 0 112) (Tables TheHeader) (at_most 112 112 refl, refl)

-- ---- the switch

least : (others : List ℕ) → HasRoom (map step_of switch_insns) others → Below switch_sizes others
least [] room = room
least (a ∷ []) room = absurd (room.1)
least (a ∷ b ∷ []) room = (room.0, (room.1.0, tt))
least (a ∷ b ∷ c ∷ others) room = absurd (room.1.1)

pub sizes : AreSizes switch_body switch_sizes
sizes = record { room = (at_most 3 3 refl, (at_most 1 1 refl, tt)); least = least }

pub lays_out : LaysOutBody switch_body
lays_out = record { sizes = switch_sizes; least = sizes; branches = refl; regions = All-nil (IsNear switch_sizes); few = at_most 0 65535 refl; lists = All-nil (λ at. at ≤ 65535) }

abbrev switch_pieces : List Piece
switch_pieces = record { start = 0; text = 0x002b ∷ 0x0004 ∷ 0x0000 ∷ [] }
    ∷ record { start = 3; text = 0x000e ∷ [] }
    ∷ record { start = 4; text = 0x0100 ∷ 0x0001 ∷ 0x0000 ∷ 0x0000 ∷ 0x0003 ∷ 0x0000 ∷ [] }
    ∷ []

swept : IsSwept switch_units switch_pieces
unfolding format_at
swept = (
  record { start = refl; size = refl; inside = at_most 3 10 refl; text = refl },
  (
    record { start = refl; size = refl; inside = at_most 4 10 refl; text = refl },
    (record { start = refl; size = refl; inside = at_most 10 10 refl; text = refl }, refl),
  ),
)

are : AreInsns (places_of switch_units switch_pieces) (instructions switch_pieces) switch_insns
unfolding format_at plain
are = (
  Packed (record { a = 0; b = 0; c = 0; wide = 4 }) (record { format = F31t; row = refl; fields = refl }) refl
      (record {
        unit = 4;
        payload = record { is = refl; even = refl; begins = refl; kind = refl };
        targets = 1 ∷ [];
        size = refl;
        are = (record { unit = 3; is = refl; begins = refl }, tt);
        is = refl;
      }),
  (Plain (record { a = 0; b = 0; c = 0; wide = 0 }) (record { format = F10x; row = refl; fields = refl }) refl refl, tt),
)

pub switch_is_swept : (pieces : List Piece) × IsSwept switch_units pieces × AreInsns (places_of switch_units pieces) (instructions pieces) switch_insns
switch_is_swept = (switch_pieces, swept, are)
