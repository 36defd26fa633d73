-- Files with a fault each.
use Rattle.std.proofs.Common.{◌≡◌, ℕ, List, [], ◌∷◌, take, refl, ap, arith}
use Rattle.std.specs.Prelude.{Ok, slice_index}
use Rattle.dex_base.specs.Adler.{adler_of}
use Rattle.dex_base.specs.Leb.{uleb_at}
use Rattle.dex_base.specs.Mutf8.{text_at, unit_in, IsTextAt}
use Rattle.dex_base.proofs.Texts.{is_text}
use Rattle.code_read.specs.declared.fault.CodeFault.TheVariants as code
use Rattle.code_read.specs.declared.sizes.Sizes.{Sizes}
use Rattle.code_read.specs.Opcodes.{format_at}
use Rattle.dex_pools.specs.declared.fault.Table.TheVariants as table
use Rattle.program_model.specs.declared.program.Version.{Version}
use Rattle.program_model.specs.declared.program.Version.TheVariants.{V035, V037}
use Rattle.dex_defs.specs.Header.{magic_of}
use Rattle.dex_defs.specs.Parts.{Magic, Checksum, Order, Root, BadValue}
use Rattle.dex_defs.specs.ClassDefs.{Def}
use Rattle.dex_defs.specs.Sweep.{Piece, IsSwept}
use Rattle.dex_defs.specs.CodeItems.{Frame}
use Rattle.dex_defs.specs.Places.{HasDef, First, Item}
use Rattle.dex_defs.specs.Faults.{HasText, BadMagic, BadSum, Strings, NoTag}
use Rattle.dex_defs.specs.CodeFaults.{BadCode, AtMove, First as StandsFirst}
use Rattle.dex_defs.specs.ClassFaults.{HasFault, BadHeader, BadOrder, BadValues, BadRoot, NoSuperclass}
use Rattle.dex_defs.specs.Examples.{damaged_file, archive_file, unordered_file, rootless_file, value_file, misplaced_item}
use Rattle.dex_defs.proofs.Computing.{at_most, below, is_32, is_16, uleb}

pub damaged : HasFault damaged_file (Checksum 0x0f2f0391 0x0f300392)
unfolding adler_of
damaged = BadHeader (BadSum 0x0f2f0391 (is_32 damaged_file 8 0x0f2f0391 refl refl) (λ e. omega (arith, e)) refl)

no_magic : (version : Version) → take 8 archive_file ≡ magic_of version → ⊥
no_magic V035 e = omega (arith, ap (λ (l : List ℕ). slice_index l 0) e)
no_magic V037 e = omega (arith, ap (λ (l : List ℕ). slice_index l 0) e)

pub archive : HasFault archive_file Magic
archive = BadHeader (BadMagic (at_most 112 140 refl) no_magic refl)

text_stands : (at units stop : ℕ) (text : List ℕ) → text_at unordered_file at units ≡ Ok (text, stop) → IsTextAt unordered_file at units (text, stop)
text_stands at units stop text e = (is_text unordered_file at units).found (text, stop) e

first : HasText unordered_file 0 (98 ∷ []) 121
unfolding uleb_at text_at unit_in
first = record {
  entry = 112;
  offset = 120;
  units = 1;
  stop = 123;
  stands = record { table = record { size = 2; offset = 112 }; is = record { size = is_32 unordered_file 56 2 refl refl; offset = is_32 unordered_file 60 112 refl refl }; inside = below 0 2 refl; place = refl };
  is_offset = is_32 unordered_file 112 120 refl refl;
  counted = uleb unordered_file 120 1 121 refl;
  is_text = text_stands 121 1 123 (98 ∷ []) refl;
}

second : HasText unordered_file 1 (97 ∷ []) 124
unfolding uleb_at text_at unit_in
second = record {
  entry = 116;
  offset = 123;
  units = 1;
  stop = 126;
  stands = record { table = record { size = 2; offset = 112 }; is = record { size = is_32 unordered_file 56 2 refl refl; offset = is_32 unordered_file 60 112 refl refl }; inside = below 1 2 refl; place = refl };
  is_offset = is_32 unordered_file 116 123 refl refl;
  counted = uleb unordered_file 123 1 124 refl;
  is_text = text_stands 124 1 126 (97 ∷ []) refl;
}

pub unordered : HasFault unordered_file (Order table.Strings 1)
unordered = BadOrder (Strings 0 121 124 (98 ∷ []) (97 ∷ []) first second refl refl)

abbrev rootless_def : Def
rootless_def = record { name = 0; flags = 1; superclass = 0xffffffff; interfaces = 0; source = 0xffffffff; annotations = 0; data_at = 0; values = 0 }

has_rootless : HasDef rootless_file 0 rootless_def
has_rootless = record {
  at = 112;
  stands = record { table = record { size = 1; offset = 112 }; is = record { size = is_32 rootless_file 96 1 refl refl; offset = is_32 rootless_file 100 112 refl refl }; inside = below 0 1 refl; place = refl };
  is = record {
    name = is_32 rootless_file 112 0 refl refl;
    flags = is_32 rootless_file 116 1 refl refl;
    superclass = is_32 rootless_file 120 0xffffffff refl refl;
    interfaces = is_32 rootless_file 124 0 refl refl;
    source = is_32 rootless_file 128 0xffffffff refl refl;
    annotations = is_32 rootless_file 132 0 refl refl;
    data_at = is_32 rootless_file 136 0 refl refl;
    values = is_32 rootless_file 140 0 refl refl;
  };
}

pub rootless : HasFault rootless_file (Root 0)
rootless = BadRoot (NoSuperclass 0 rootless_def has_rootless refl refl)

abbrev value_def : Def
value_def = record { name = 0; flags = 1; superclass = 0; interfaces = 0; source = 0xffffffff; annotations = 0; data_at = 0; values = 144 }

has_values : HasDef value_file 0 value_def
has_values = record {
  at = 112;
  stands = record { table = record { size = 1; offset = 112 }; is = record { size = is_32 value_file 96 1 refl refl; offset = is_32 value_file 100 112 refl refl }; inside = below 0 1 refl; place = refl };
  is = record {
    name = is_32 value_file 112 0 refl refl;
    flags = is_32 value_file 116 1 refl refl;
    superclass = is_32 value_file 120 0 refl refl;
    interfaces = is_32 value_file 124 0 refl refl;
    source = is_32 value_file 128 0xffffffff refl refl;
    annotations = is_32 value_file 132 0 refl refl;
    data_at = is_32 value_file 136 0 refl refl;
    values = is_32 value_file 140 144 refl refl;
  };
}

pub unknown : HasFault value_file (BadValue 145)
unfolding uleb_at
unknown = BadValues (NoTag 1 145 (First 0 144 0 (record { def = value_def; has = has_values; leads = (below 0 144 refl, refl) }) (Item 1 145 (uleb value_file 144 1 145 refl) (below 0 1 refl) refl)) (below 145 146 refl) refl refl)

-- ---- a move-result behind nothing, whatever the other instruction is

abbrev units : List ℕ
units = 0x000a ∷ 0x6428 ∷ []

abbrev pieces : List Piece
pieces = record { start = 0; text = 0x000a ∷ [] } ∷ record { start = 1; text = 0x6428 ∷ [] } ∷ []

swept : IsSwept units pieces
unfolding format_at
swept = (record { start = refl; size = refl; inside = at_most 1 2 refl; text = refl }, (record { start = refl; size = refl; inside = at_most 2 2 refl; text = refl }, refl))

abbrev frame : Frame
frame = record { registers = 1; ins = 0; outs = 0; tries = 0; debug = 0; size = 2 }

pub misplaced : (sizes : Sizes) → BadCode misplaced_item sizes 0 (code.Misplaced 0)
misplaced sizes = AtMove frame units pieces 0 (record { start = 0; text = 0x000a ∷ [] })
    (record {
      frame = record {
        registers = is_16 misplaced_item 0 1 refl refl;
        ins = is_16 misplaced_item 2 0 refl refl;
        outs = is_16 misplaced_item 4 0 refl refl;
        tries = is_16 misplaced_item 6 0 refl refl;
        debug = is_32 misplaced_item 8 0 refl refl;
        size = is_32 misplaced_item 12 2 refl refl;
      };
      many = refl;
      are = (is_16 misplaced_item 16 0x000a refl refl, (is_16 misplaced_item 18 0x6428 refl refl, tt));
    }) swept refl (StandsFirst refl refl) refl
