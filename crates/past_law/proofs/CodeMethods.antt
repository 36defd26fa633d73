-- What a method takes of items and cells stands in its code, and where it passes a limit one thing more does.
use Rattle.std.proofs.Common.{◌≡◌, ◌≤◌, ◌<◌, inl, inr, ℕ, zero, suc, ◌+◌, ◌-◌, ◌*◌, ◌^◌, false, leb, eqb, List, [], length, drop, Some, None, refl, sym, subst, ◌∙◌, arith}
use Rattle.std.specs.Prelude.{slice_index, sum_by}
use Rattle.std.proofs.lemmas.Bool.{leb-true, leb-false}
use Rattle.dex_base.specs.declared.fault.BaseFault.{BaseFault}
use Rattle.dex_base.specs.declared.fault.BaseFault.TheVariants as base
use Rattle.dex_base.specs.Decides.{Each}
use Rattle.dex_base.specs.Word.{Is16}
use Rattle.dex_pools.proofs.Finding.{finds_each}
use Rattle.line_tables.specs.Text.{AscendsFrom}
use Rattle.program_model.specs.Cells.{body_cells}
use Rattle.program_model.specs.Items.{region_items, body_items}
use Rattle.program_model.specs.Limits.{limit_of}
use Rattle.program_model.specs.declared.body.Body.{Body}
use Rattle.program_model.specs.declared.limits.Counted.TheVariants.{Cells, Items}
use Rattle.program_model.specs.declared.limits.LimitFault.{LimitFault}
use Rattle.program_model.specs.declared.program.Program.{Program}
use Rattle.code_read.specs.declared.fault.CodeFault.{CodeFault}
use Rattle.code_read.specs.declared.fault.CodeFault.TheVariants as code
use Rattle.code_read.specs.Code.{code_of}
use Rattle.code_read.specs.Sweep.{Piece}
use Rattle.dex_defs.specs.Sweep.{IsSwept, instructions, starts_of, places_of}
use Rattle.dex_defs.specs.CodeItems.{Frame}
use Rattle.dex_defs.specs.CodeFaults.{HasUnits}
use Rattle.dex_defs.specs.Places.{HasEntry}
use Rattle.dex_defs.specs.Limits.{IsMethodCode, IsItem, IsCell}
use Rattle.dex_read.specs.declared.class_data.Listed.{Listed}
use Rattle.dex_read.specs.declared.code.CodeItem.{CodeItem}
use Rattle.dex_read.specs.declared.fault.DexFault.{DexFault}
use Rattle.dex_read.specs.declared.fault.DexFault.TheVariants as dex
use Rattle.dex_read.specs.declared.members.Budget.{Budget}
use Rattle.dex_read.specs.Code.{gap, item_at, frame_at, units_at, body_at, sizes_for, in_code, of_code, lined_at, cells_with, method_with, coded_at, method_at}
use Rattle.dex_read.specs.Faults.{of_base}
use Rattle.dex_read.specs.Header.{need_at, past}
use Rattle.dex_read.specs.Word.{half_at, word_at}
use Rattle.file_laws.specs.Founds.{Founds}
use Rattle.file_laws.proofs.Founding.{known}
use Rattle.file_laws.specs.Class.{IsReadItem}
use Rattle.file_laws.specs.ClassData.{entry_of}
use Rattle.file_laws.proofs.Classes.{founds_frame}
use Rattle.file_laws.proofs.Words.{finds_half}
use Rattle.spelled_law.proofs.Starts.{starts_ascend}
use Rattle.refused_law.proofs.Failing.{Fails, sound, unless, fails_lifted, fails_each}
use Rattle.past_law.specs.Told.{Told, one_past}
use Rattle.past_law.specs.Code.{Took, PassesBudget, OnPast}
use Rattle.past_law.proofs.Told.{none as nothing}
use Rattle.past_law.proofs.CodeReads.{Reads, gives, refuses, by_test, then, lifted, reads_more, both_known, any_read, OnLimit}
use Rattle.past_law.proofs.CodeTold.{total, renamed, join}
use Rattle.past_law.proofs.CodeCells.{MethodCell, PassesTables, tables, all_cells}
use Rattle.past_law.proofs.CodeHandlers.{ItemName, PassesHandlers, all_handlers}
use Rattle.past_law.proofs.CodeLines.{opcodes_of, Leaves, PassesLines, reads_lined, all_lines}
use Rattle.past_law.proofs.CodeBodies.{PassesCode, HasBody, reads_code}

-- names of items of this method's code
abbrev pub MethodItem : ℕ → ℕ → ℕ → List ℕ → Type 0
MethodItem class which place way = (6 ≤ slice_index way 0) × (slice_index way 1 ≡ class) × (slice_index way 2 ≡ which) × (slice_index way 3 ≡ place)

of_kind : (kind class which place : ℕ) (way : List ℕ) → 6 ≤ kind → ItemName kind class which place way → MethodItem class which place way
of_kind kind class which place way low h = ((let is = h.0 in omega (arith, is, low)), h.1, h.2, h.3)

apart : (class which place : ℕ) (way : List ℕ) → ItemName 7 class which place way → ItemName 6 class which place way → ⊥
apart class which place way h g = let seven = h.0 in let six = g.0 in omega (arith, seven, six)

-- ---- numbers and room

-- the units and the try items lie in the file
record HasRoom (bytes : List ℕ) (item : CodeItem) : Type 0 where
  units : item.units_at + 2 * item.size ≤ length bytes
  tries : item.tries_at + 8 * item.tries ≤ length bytes

module _ (Says : LimitFault → Type 0) where
  base_past : (e : BaseFault) → OnPast Says (of_base e)
  base_past base.NoMemory = tt
  base_past (base.Short at) = tt
  base_past (base.LongLeb at) = tt
  base_past (base.BadText at) = tt
  base_past (base.BadDescriptor at) = tt

  fails_half : (bytes : List ℕ) (at : ℕ) → Fails (OnPast Says) (half_at bytes at)
  fails_half bytes at = fails_lifted of_base (record { fault = λ e h. base_past e })

  fails_word : (bytes : List ℕ) (at : ℕ) → Fails (OnPast Says) (word_at bytes at)
  fails_word bytes at = fails_lifted of_base (record { fault = λ e h. base_past e })

  reads_need : (bytes : List ℕ) (at count : ℕ) → Reads (λ u. at + count ≤ length bytes) (OnPast Says) (need_at bytes at count)
  unfolding need_at
  reads_need bytes at count = by_test {b = leb (at + count) (length bytes)} (λ is. gives tt (leb-true (at + count) (length bytes) is)) (λ _. refuses (dex.Short at) tt)

  units_inside : (at size skip tries all : ℕ) → at + (16 + 2 * size + skip + 8 * tries) ≤ all → at + 16 + 2 * size ≤ all
  units_inside at size skip tries all h = omega (arith, h)

  tries_inside : (at size skip tries all : ℕ) → at + (16 + 2 * size + skip + 8 * tries) ≤ all → at + (16 + 2 * size + skip) + 8 * tries ≤ all
  tries_inside at size skip tries all h = omega (arith, h)

  reads_item : (bytes : List ℕ) (at : ℕ) → Reads (HasRoom bytes) (OnPast Says) (item_at bytes at)
  unfolding item_at
  reads_item bytes at =
      then (reads_need bytes at 16) (λ begins _ _.
      then (any_read (fails_half bytes at)) (λ registers _ _.
      then (any_read (fails_half bytes (at + 2))) (λ ins _ _.
      then (any_read (fails_half bytes (at + 6))) (λ tries _ _.
      then (any_read (fails_word bytes (at + 8))) (λ debug _ _.
      then (any_read (fails_word bytes (at + 12))) (λ size _ _.
      then (reads_need bytes at (16 + 2 * size + gap tries size + 8 * tries)) (λ whole _ h. gives (record {
        registers = registers;
        ins = ins;
        tries = tries;
        debug = debug;
        size = size;
        units_at = at + 16;
        tries_at = at + (16 + 2 * size + gap tries size);
      }) (record { units = units_inside at size (gap tries size) tries (length bytes) h; tries = tries_inside at size (gap tries size) tries (length bytes) h }))))))))

  fails_frame : (p : Program) (e : Listed) (item : CodeItem) → Fails (OnPast Says) (frame_at p e item)
  unfolding frame_at
  fails_frame p e item = unless (dex.FrameSize e.number) (λ _. tt) (λ _. sound tt)

  fails_units : (bytes : List ℕ) (at count : ℕ) → Fails (OnPast Says) (units_at bytes at count)
  unfolding units_at
  fails_units bytes at count = fails_each (λ i. half_at bytes (at + 2 * i)) 0 count (λ i less. fails_half bytes (at + 2 * i))

  code_fault : (method : ℕ) (Code : LimitFault → Type 0) → ((limit : LimitFault) → Code limit → Says (one_past (in_code limit.counted))) → (e : CodeFault) → OnLimit Code e → OnPast Says (of_code method e)
  code_fault method Code to (code.Limit limit) h = to limit h
  code_fault method Code to code.NoMemory h = tt
  code_fault method Code to (code.Opcode unit) h = tt
  code_fault method Code to (code.Cut unit) h = tt
  code_fault method Code to (code.Target unit) h = tt
  code_fault method Code to (code.Payload unit) h = tt
  code_fault method Code to (code.Operand unit) h = tt
  code_fault method Code to (code.Region place) h = tt
  code_fault method Code to (code.Handler place) h = tt
  code_fault method Code to (code.FallsOff unit) h = tt
  code_fault method Code to (code.Misplaced unit) h = tt

founds_units : (bytes : List ℕ) (at count : ℕ) → Founds (λ units. (length units ≡ count) × Each (λ i unit. Is16 bytes (at + 2 * i) unit) 0 units) (units_at bytes at count)
unfolding units_at
founds_units bytes at count = known (finds_each (λ i unit. Is16 bytes (at + 2 * i) unit) (λ i. half_at bytes (at + 2 * i)) (λ i. finds_half bytes (at + 2 * i)) 0 count)

-- ---- one method

module _ (bytes : List ℕ) (few : length bytes < 2 ^ 32) (p : Program) (class which place : ℕ) (method : 2 ≤ which) (e : Listed) (has : HasEntry bytes class which place (entry_of e)) where
  abbrev MyItem : List ℕ → Type 0
  MyItem way = MethodItem class which place way

  abbrev MyCell : List ℕ → Type 0
  MyCell way = MethodCell class which place way

  abbrev Takes : Budget → Budget → Type 0
  Takes before behind = Took bytes MyItem MyCell before behind

  abbrev Passes : Budget → LimitFault → Type 0
  Passes before limit = PassesBudget bytes MyItem MyCell before limit

  module _ (some : 0 < e.code) (left : Budget) where
    abbrev On : DexFault → Type 0
    On fault = OnPast (Passes left) fault

    abbrev Its : Frame → List Piece → Type 0
    Its f pieces = IsMethodCode bytes class which place e.code f pieces

    -- ---- where a limit is passed

    over_items : (n : ℕ) → Told (IsItem bytes) MyItem n → suc left.items ≤ n → Passes left (one_past Items)
    over_items n told enough = inl (refl, renamed (suc left.items) told (λ way h. h) enough)

    over_cells : (n : ℕ) → Told (IsCell bytes) MyCell n → suc (limit_of Cells) - left.cells ≤ n → Passes left (one_past Cells)
    over_cells n told enough = inr (refl, renamed (suc (limit_of Cells) - left.cells) told (λ way h. h) enough)

    of_tables : (f : Frame) (pieces : List Piece) (its : Its f pieces) → (limit : LimitFault) → PassesTables its.units pieces 0 67108864 limit → Passes left (one_past (in_code limit.counted))
    of_tables f pieces its limit h =
        let past = h.1 in
        let many = past.many in
        subst (λ (l : LimitFault). Passes left (one_past (in_code l.counted))) (sym h.0)
        (over_cells (total past.counts) (renamed (total past.counts) (tables bytes class which place e.code f pieces its past.counts past.are) (λ way g. (g.0, g.1, g.2)) (omega arith)) (omega (arith, many)))

    of_handlers : (f : Frame) (pieces : List Piece) (its : Its f pieces) → (limit : LimitFault) → PassesHandlers bytes e.code f (places_of its.units pieces) 0 left.items limit → Passes left (one_past (in_code limit.counted))
    of_handlers f pieces its limit h =
        let past = h.1 in
        let many = past.many in
        subst (λ (l : LimitFault). Passes left (one_past (in_code l.counted))) (sym h.0)
        (over_items (total past.counts) (renamed (total past.counts) (all_handlers bytes class which place e.code f pieces its past.counts past.are) (λ way g. of_kind 7 class which place way (omega arith) g) (omega arith)) (omega (arith, many)))

    abbrev its_code : (f : Frame) (units : List ℕ) (pieces : List Piece) → HasUnits bytes e.code f units → IsSwept units pieces → Its f pieces
    its_code f units pieces are swept = record { entry = entry_of e; method = method; has = has; leads = (some, refl); units = units; are = are; swept = swept }

    of_passes : (f : Frame) (units : List ℕ) → HasUnits bytes e.code f units → (limit : LimitFault) → PassesCode bytes e.code f units left.items limit → Passes left (one_past (in_code limit.counted))
    of_passes f units are limit h = elim h.passes [
      | inl t ↦ of_tables f h.pieces (its_code f units h.pieces are h.swept) limit t
      | inr t ↦ of_handlers f h.pieces (its_code f units h.pieces are h.swept) limit t
    ]

    -- ---- its body

    module _ (item : CodeItem) (is : IsReadItem bytes e.code item) where
      record Bodied (read : Body × List ℕ) : Type 0 where
        units : List ℕ
        are : HasUnits bytes e.code is.frame units
        short : length units < 2 ^ 31
        body : HasBody bytes e.code is.frame units read

      has_units : (units : List ℕ) → (length units ≡ item.size) × Each (λ i unit. Is16 bytes (item.units_at + 2 * i) unit) 0 units → HasUnits bytes e.code is.frame units
      has_units units h = record { frame = is.is; many = h.0 ∙ is.size; are = subst (λ (n : ℕ). Each (λ i unit. Is16 bytes (n + 2 * i) unit) 0 units) is.units_at h.1 }

      reads_whole : HasRoom bytes item → (units : List ℕ) → (length units ≡ item.size) × Each (λ i unit. Is16 bytes (item.units_at + 2 * i) unit) 0 units
          → Reads (HasBody bytes e.code is.frame units) (OnLimit (PassesCode bytes e.code is.frame units left.items)) (code_of units (drop item.tries_at bytes) (sizes_for p item left.items))
      reads_whole room units h =
          let inside = room.units in
          let tries_inside = room.tries in
          let long = h.0 in
          let begin = is.tries_begin in
          let many = is.tries in
          subst (λ (n : ℕ). Reads (HasBody bytes e.code is.frame units) (OnLimit (PassesCode bytes e.code is.frame units left.items)) (code_of units (drop n bytes) (sizes_for p item left.items))) (sym begin)
          (reads_code bytes e.code is.frame units (omega (arith, long, inside, few)) (omega (arith, tries_inside, begin, many)) (sizes_for p item left.items) many is.registers)

      reads_body : HasRoom bytes item → Reads Bodied On (body_at bytes p e.number item left.items)
      unfolding body_at
      reads_body room =
          then (both_known (founds_units bytes item.units_at item.size) (fails_units (Passes left) bytes item.units_at item.size)) (λ units _ h.
          lifted (of_code e.number) (reads_more
          (λ read g. record { units = units; are = has_units units h; short = (let inside = room.units in let long = h.0 in omega (arith, long, inside, few)); body = g })
          (code_fault (Passes left) e.number (PassesCode bytes e.code is.frame units left.items) (of_passes is.frame units (has_units units h)))
          (reads_whole room units h)))

      -- ---- its lines and cells

      module _ (read : Body × List ℕ) (b : Bodied read) where
        abbrev its : Its is.frame b.body.pieces
        its = its_code is.frame b.units b.body.pieces b.are b.body.swept

        abbrev behind : ℕ
        behind = left.items - body_items (Some read.0)

        abbrev its_lines : ℕ
        its_lines = opcodes_of bytes read.1 item.debug

        abbrev its_handlers : ℕ
        its_handlers = total b.body.kept.counts

        ascends : AscendsFrom 0 read.1
        ascends = subst (AscendsFrom 0) (sym b.body.starts) (starts_ascend b.units 0 0 b.body.pieces (length b.units) b.short (omega arith) b.body.swept)

        handlers : Told (IsItem bytes) (ItemName 7 class which place) its_handlers
        handlers = all_handlers bytes class which place e.code is.frame b.body.pieces its b.body.kept.counts b.body.kept.are

        lines : 0 < item.debug → Told (IsItem bytes) (ItemName 6 class which place) its_lines
        lines positive =
            let debug : item.debug ≡ is.frame.debug = is.debug in
            subst (λ (starts : List ℕ). Told (IsItem bytes) (ItemName 6 class which place) (opcodes_of bytes starts item.debug)) (sym b.body.starts)
            (subst (λ (n : ℕ). Told (IsItem bytes) (ItemName 6 class which place) (opcodes_of bytes (starts_of (instructions b.body.pieces)) n)) (sym debug)
            (all_lines bytes class which place e.code is.frame b.body.pieces its (omega (arith, positive, debug))))

        cells : Told (IsCell bytes) MyCell (body_cells read.0)
        cells = all_cells bytes class which place e.code is.frame b.body.pieces its read.0 b.body.registers b.body.insns

        -- so many items are told of lines, and no more are taken
        record Lined (r : List ℕ × ℕ) : Type 0 where
          count : ℕ
          told : Told (IsItem bytes) (ItemName 6 class which place) count
          enough : behind ≤ r.1 + count

        lined : (r : List ℕ × ℕ) → Leaves bytes read.1 item.debug behind r → Lined r
        lined r (inl le) = record { count = 0; told = nothing; enough = omega (arith, le) }
        lined r (inr h) = record { count = its_lines; told = lines h.0; enough = h.1 }

        both_items : (n m : ℕ) → Told (IsItem bytes) (ItemName 6 class which place) n → m ≤ its_handlers + n → Told (IsItem bytes) MyItem m
        both_items n m told enough = join m handlers told (apart class which place) (λ way g. of_kind 7 class which place way (omega arith) g) (λ way g. of_kind 6 class which place way (omega arith) g) enough

        over_lines : (fault : DexFault) → PassesLines bytes read.1 item.debug behind fault → On fault
        over_lines fault h =
            let kept : sum_by region_items read.0.regions ≤ its_handlers = b.body.kept.many in
            let more : behind < its_lines = h.2 in
            subst On (sym h.0) (over_items (suc left.items) (both_items its_lines (suc left.items) (lines h.1) (omega (arith, kept, more))) (omega arith))

        reads_lines : Reads Lined On (lined_at bytes item.debug read.1 behind)
        reads_lines = reads_more lined over_lines (reads_lined bytes read.1 item.debug behind ascends)

        reads_cells : Reads (λ count. count ≡ left.cells + body_cells read.0) On (cells_with read.0 left.cells)
        unfolding cells_with
        reads_cells = by_test {b = leb (left.cells + body_cells read.0) (limit_of Cells)} (λ _. gives (left.cells + body_cells read.0) refl)
            (λ over. refuses (past Cells) (over_cells (body_cells read.0) cells (let more = leb-false (left.cells + body_cells read.0) (limit_of Cells) over in omega (arith, more))))

        took : (r : List ℕ × ℕ) → Lined r → (count : ℕ) → count ≡ left.cells + body_cells read.0 → Takes left (record { items = r.1; cells = count })
        took r l count sum =
            let kept : sum_by region_items read.0.regions ≤ its_handlers = b.body.kept.many in
            let enough : behind ≤ r.1 + l.count = l.enough in
            record {
              items = both_items l.count (left.items - r.1) l.told (omega (arith, kept, enough));
              cells = renamed (count - left.cells) cells (λ way h. h) (omega (arith, sum));
            }

    reads_coded : Reads (λ r. Takes left r.1) On (coded_at bytes p e left)
    unfolding coded_at
    reads_coded =
        then (reads_item (Passes left) bytes e.code) (λ item h room. let is = (founds_frame bytes e.code).found item h in
        then (any_read (fails_frame (Passes left) p e item)) (λ frame _ _.
        then (reads_body item is room) (λ body _ b.
        then (reads_lines item is body b) (λ lines _ l.
        then (reads_cells item is body b) (λ cells _ sum. gives (method_with e (Some body.0) lines.0, record { items = lines.1; cells = cells }) (took item is body b lines l cells sum))))))

  positive : (n : ℕ) → eqb n 0 ≡ false → 0 < n
  positive zero h = absurd cc
  positive (suc n) h = omega arith

  pub nothing_taken : (left : Budget) → Takes left left
  nothing_taken left = record { items = renamed {In = MyItem} (left.items - left.items) nothing (λ way h. h) (omega arith); cells = renamed {In = MyCell} (left.cells - left.cells) nothing (λ way h. h) (omega arith) }

  pub reads_method : (left : Budget) → Reads (λ r. Takes left r.1) (OnPast (Passes left)) (method_at bytes p e left)
  reads_method left = by_test {b = eqb e.code 0} (λ _. gives (method_with e None [], left) (nothing_taken left)) (λ some. reads_coded (positive e.code some) left)
