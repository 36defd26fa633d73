-- The program of nothing has a valid file, that of its 140 bytes with their signature.
use Rattle.std.proofs.Common.{◌≡◌, ◌<◌, ◌+◌, ℕ, [], refl, arith}
use Rattle.std.specs.Prelude.{slice_get, Some}
use Rattle.sha1.specs.Sha1.{first_words, schedule, rounds, compress, hash_after, digest_bytes, sha1}
use Rattle.dex_base.specs.Word.{Is32}
use Rattle.dex_base.specs.Adler.{adler_of}
use Rattle.dex_pools.specs.Spelled.{SpellsPools, IsExtent}
use Rattle.dex_defs.specs.Header.{IsHeader}
use Rattle.dex_defs.specs.Spells.{Spells, pools_of}
use Rattle.dex_defs.specs.ClassGraph.{IsAbove}
use Rattle.dex_defs.specs.Valid.{Parts, Stops, AllUsed, AreParts, LieInOrder, HasMap, IsValidFor, IsSigned, ValidFile}
use Rattle.dex_defs.specs.Examples.{empty_program, empty_file}
use Rattle.dex_defs.proofs.Computing.{at_most, below, is_32, here_at, zeros_at}

header : IsHeader empty_file empty_program.version
unfolding adler_of
header = record {
  whole = at_most 112 140 refl;
  magic = refl;
  checksum = is_32 empty_file 8 0xd9700bbe refl refl;
  file_size = is_32 empty_file 32 140 refl refl;
  header_size = is_32 empty_file 36 112 refl refl;
  endian_tag = is_32 empty_file 40 0x12345678 refl refl;
  link_size = is_32 empty_file 44 0 refl refl;
}

nothing_below : {X : Type 0} (n : ℕ) → n < 0 → X
nothing_below n h = absurd (grind arith)

none_stands : (at width : ℕ) → Is32 empty_file at 0 → Is32 empty_file (at + 4) 0 → IsExtent empty_file at width (record { size = 0; offset = 0 })
none_stands at width size offset = record { size = size; offset = offset; inside = λ h. nothing_below 0 h }

pools : SpellsPools empty_file 16777216 (pools_of empty_program)
pools = record {
  tables = record { strings = record { size = 0; offset = 0 }; types = record { size = 0; offset = 0 }; protos = record { size = 0; offset = 0 }; fields = record { size = 0; offset = 0 }; methods = record { size = 0; offset = 0 } };
  stand = record {
    strings = none_stands 56 4 (is_32 empty_file 56 0 refl refl) (is_32 empty_file 60 0 refl refl);
    types = none_stands 64 4 (is_32 empty_file 64 0 refl refl) (is_32 empty_file 68 0 refl refl);
    protos = none_stands 72 12 (is_32 empty_file 72 0 refl refl) (is_32 empty_file 76 0 refl refl);
    fields = none_stands 80 8 (is_32 empty_file 80 0 refl refl) (is_32 empty_file 84 0 refl refl);
    methods = none_stands 88 8 (is_32 empty_file 88 0 refl refl) (is_32 empty_file 92 0 refl refl);
  };
  strings = (refl, tt);
  strings_ascend = tt;
  units = at_most 0 16777216 refl;
  types = (refl, tt);
  types_ascend = tt;
  protos = (refl, tt);
  protos_ascend = tt;
  items = at_most 0 16777216 refl;
  fields = (refl, tt);
  fields_ascend = tt;
  methods = (refl, tt);
  methods_ascend = tt;
}

spelled : Spells empty_file empty_program
spelled = record {
  header = header;
  pools = pools;
  table = record { size = 0; offset = 0 };
  stands = none_stands 96 32 (is_32 empty_file 96 0 refl refl) (is_32 empty_file 100 0 refl refl);
  classes = (refl, tt);
}

none_used : AllUsed empty_program
none_used = record {
  strings = λ n h. nothing_below n h;
  types = λ n h. nothing_below n h;
  protos = λ n h. nothing_below n h;
  fields = λ n h. nothing_below n h;
  methods = λ n h. nothing_below n h;
}

abbrev no_parts : Parts
no_parts = record { strings = []; parameters = []; starts = []; classes = []; sets = [] }

abbrev at_map : Stops
at_map = record { lists = 112; refs = 112; sets = 112; codes = 112; directories = 112; members = 112; strings = 112; lines = 112; marks = 112; values = 112 }

parts_are : AreParts empty_file empty_program no_parts
parts_are = record { strings = (refl, tt); parameters = (refl, tt); lists = tt; classes = tt; interfaces = tt; sets = tt }

nothing_lies : LieInOrder empty_file empty_program no_parts at_map
nothing_lies = record { lists = refl; refs = refl; sets = refl; codes = refl; directories = refl; members = refl; strings = refl; lines = refl; marks = refl; values = refl }

map_stands : HasMap empty_file empty_program no_parts 112
map_stands = record {
  at = 112;
  next = record { behind = at_most 112 112 refl; near = below 112 116 refl; aligned = refl };
  zeros = zeros_at empty_file 112 112 refl (here_at empty_file 112 [] refl refl);
  is = here_at empty_file 112 _ refl refl;
  last = refl;
  header = here_at empty_file 44 _ refl refl;
}

no_class : (class upper : ℕ) → IsAbove empty_program class upper → upper < class
no_class class upper above = absurd (none above.is_class)
  where
    none : slice_get empty_program.classes class ≡ Some above.c → ⊥
    none e = grind arith

pub valid : IsValidFor empty_file empty_program
valid = record { spelled = spelled; used = none_used; parts = no_parts; are = parts_are; stops = at_map; lie = nothing_lies; map = map_stands; above_first = no_class }

pub signed : IsSigned empty_file
unfolding first_words schedule rounds compress hash_after digest_bytes sha1
signed = refl

pub file : ValidFile empty_file
file = record { program = empty_program; valid = valid; signature = signed }
