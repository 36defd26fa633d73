-- A fault of a method's code that is answered stands in the file.
use Rattle.std.proofs.Common.{◌≡◌, ◌≤◌, ◌<◌, ℕ, zero, suc, ◌+◌, ◌-◌, ◌*◌, ◌^◌, false, leb, eqb, List, [], length, take, drop, Some, None, Option, Ok, refl, sym, subst, ◌∙◌, arith}
use Rattle.std.specs.Int.{w16, from_le_bytes}
use Rattle.dex_base.specs.Decides.{Each}
use Rattle.dex_base.specs.Word.{Is16}
use Rattle.dex_pools.proofs.Finding.{finds_each}
use Rattle.program_model.specs.Items.{body_items}
use Rattle.program_model.specs.Cells.{body_cells}
use Rattle.program_model.specs.declared.body.Body.{Body}
use Rattle.program_model.specs.declared.limits.Counted.TheVariants.{Cells, Items}
use Rattle.program_model.specs.declared.program.Program.{Program}
use Rattle.code_read.specs.declared.fault.CodeFault.{CodeFault}
use Rattle.code_read.specs.declared.fault.CodeFault.TheVariants as code
use Rattle.code_read.specs.Code.{code_of}
use Rattle.code_read.specs.Positions.{nowhere}
use Rattle.dex_defs.specs.ClassFaults.{HasFault, AreSizes, BadCode, InBody}
use Rattle.dex_defs.specs.CodeItems.{Frame, IsFrame, tries_at}
use Rattle.dex_defs.specs.CodeFaults.{HasUnits, BadCode as BadItem}
use Rattle.dex_defs.specs.Parts as parts
use Rattle.dex_defs.specs.Places.{HasEntry, HasFrame, Leads}
use Rattle.dex_defs.specs.Placed.{CodeFrame, CodeUnits, CodeTries}
use Rattle.dex_defs.specs.Placed as placed
use Rattle.dex_read.specs.declared.class_data.Listed.{Listed}
use Rattle.dex_read.specs.declared.code.CodeItem.{CodeItem}
use Rattle.dex_read.specs.declared.fault.DexFault.{DexFault}
use Rattle.dex_read.specs.declared.members.Budget.{Budget}
use Rattle.dex_read.specs.Code.{gap, item_at, frame_at, units_at, body_at, sizes_for, of_code, counted_lines, kept_lines, lined_at, cells_with, method_with, coded_at, method_at}
use Rattle.dex_read.specs.Header.{need_at, past}
use Rattle.dex_read.specs.Tables.{sizes_in}
use Rattle.dex_read.specs.Word.{half_at, word_at}
use Rattle.line_tables.specs.Item.{lines_at}
use Rattle.file_laws.specs.Founds.{Founds}
use Rattle.file_laws.proofs.Founding.{known, weaker, done, next}
use Rattle.file_laws.proofs.Bodies.{whatever}
use Rattle.file_laws.specs.Class.{IsReadItem}
use Rattle.file_laws.specs.ClassData.{entry_of}
use Rattle.file_laws.proofs.Classes.{founds_frame}
use Rattle.file_laws.proofs.Words.{finds_word, finds_half, finds_need}
use Rattle.refused_law.specs.Just.{IsJust}
use Rattle.refused_law.proofs.Failing.{Fails, sound, stands, unless, fails_either, fails_next, fails_lifted, fails_more, fails_each}
use Rattle.refused_law.proofs.Headers.{fails_word, fails_need}
use Rattle.refused_law.proofs.ValueFaults as values
use Rattle.refused_code.proofs.Bodies.{IsJustCode, fails_code}

-- a frame that isn't that of its method stands so
abbrev pub Frames : List ℕ → Program → ℕ → Listed → Type 0
Frames bytes p class e = (item : CodeItem) (f : Frame) → HasFrame bytes class (entry_of e) e.code f → item.registers ≡ f.registers → item.ins ≡ f.ins → Fails (IsJust bytes) (frame_at p e item)

positive : (n : ℕ) → eqb n 0 ≡ false → 0 < n
positive zero e = absurd cc
positive (suc n) e = omega arith

-- two bytes that are there
fails_half : (bytes : List ℕ) (at : ℕ) → at + 2 ≤ length bytes → {Has : DexFault → Type 0} → Fails Has (half_at bytes at)
fails_half bytes at inside = stands (half_at bytes at) (finds_half bytes at) (from_le_bytes w16 (take 2 (drop at bytes))) (record { inside = inside; spelled = refl })

-- the units and the try items lie in the file
record HasRoom (bytes : List ℕ) (item : CodeItem) : Type 0 where
  units : item.units_at + 2 * item.size ≤ length bytes
  tries : item.tries_at + 8 * item.tries ≤ length bytes

founds_room : (bytes : List ℕ) (at : ℕ) → Founds (HasRoom bytes) (item_at bytes at)
unfolding item_at
founds_room bytes at = weaker (item_at bytes at)
    (next (whatever (need_at bytes at 16)) (λ begins _.
    next (whatever (half_at bytes at)) (λ registers _.
    next (whatever (half_at bytes (at + 2))) (λ ins _.
    next (whatever (half_at bytes (at + 6))) (λ tries _.
    next (whatever (word_at bytes (at + 8))) (λ debug _.
    next (whatever (word_at bytes (at + 12))) (λ size _.
    next (known (finds_need bytes at _)) (λ whole _. done _))))))))
    (λ y q. let tries = q.2.2.2 in let size = tries.2.2 in let whole = size.2 in
    subst (HasRoom bytes) (sym whole.2) (record { units = units_inside at size.0 _ tries.0 (length bytes) whole.1; tries = tries_inside at size.0 _ tries.0 (length bytes) whole.1 }))
  where
    units_inside : (at size skip tries all : ℕ) → at + (16 + 2 * size + skip + 8 * tries) ≤ all → at + 16 + 2 * size ≤ all
    units_inside at size skip tries all h = omega (arith, h)

    tries_inside : (at size skip tries all : ℕ) → at + (16 + 2 * size + skip + 8 * tries) ≤ all → at + (16 + 2 * size + skip) + 8 * tries ≤ all
    tries_inside at size skip tries all h = omega (arith, h)

module _ (bytes : List ℕ) (few : length bytes < 2 ^ 32) (p : Program) (are : values.AreSizes bytes (sizes_in p)) (class which place : ℕ) (method : 2 ≤ which) (e : Listed) (has : HasEntry bytes class which place (entry_of e)) (some : 0 < e.code) (frames : Frames bytes p class e) where
  leads : Leads (entry_of e).code e.code
  leads = (some, refl)

  has_frame : (f : Frame) → IsFrame bytes e.code f → HasFrame bytes class (entry_of e) e.code f
  has_frame f is = record { which = which; place = place; method = method; entry = has; leads = leads; is = is }

  -- ---- the item

  whole_placed : (f : Frame) → IsFrame bytes e.code f → placed.IsPlaced bytes (parts.Bytes e.code (16 + 2 * f.size + gap f.tries f.size + 8 * f.tries))
  whole_placed f is = by_tries f.tries refl
    where
      by_tries : (n : ℕ) → f.tries ≡ n → placed.IsPlaced bytes (parts.Bytes e.code (16 + 2 * f.size + gap f.tries f.size + 8 * f.tries))
      by_tries zero e0 =
          let small : 16 + 2 * f.size ≡ 16 + 2 * f.size + gap f.tries f.size + 8 * f.tries = subst (λ (t : ℕ). 16 + 2 * f.size ≡ 16 + 2 * f.size + gap t f.size + 8 * t) (sym e0) (omega arith) in
          subst (λ (n : ℕ). placed.IsPlaced bytes (parts.Bytes e.code n)) small (placed.Classes (CodeUnits class e.code (entry_of e) f (has_frame f is)))
      by_tries (suc t) e0 = placed.Classes (CodeTries class e.code (16 + 2 * f.size + gap f.tries f.size + 8 * f.tries) (entry_of e) f (has_frame f is) (omega (arith, e0)) (omega arith))

  fails_item : Fails (IsJust bytes) (item_at bytes e.code)
  unfolding item_at
  fails_item =
      fails_next (fails_need bytes e.code 16 (placed.Classes (CodeFrame class which place e.code (entry_of e) method has leads))) (λ u h. let whole : e.code + 16 ≤ length bytes = (finds_need bytes e.code 16).found u h in
      fails_next (fails_half bytes e.code (omega (arith, whole))) (λ registers h0.
      fails_next (fails_half bytes (e.code + 2) (omega (arith, whole))) (λ ins h1.
      fails_next (fails_half bytes (e.code + 6) (omega (arith, whole))) (λ tries h2.
      fails_next (fails_word bytes (e.code + 8) (omega (arith, whole))) (λ debug h3.
      fails_next (fails_word bytes (e.code + 12) (omega (arith, whole))) (λ size h4.
      let f : Frame = record { registers = registers; ins = ins; outs = from_le_bytes w16 (take 2 (drop (e.code + 4) bytes)); tries = tries; debug = debug; size = size } in
      let is : IsFrame bytes e.code f = record {
        registers = (finds_half bytes e.code).found registers h0;
        ins = (finds_half bytes (e.code + 2)).found ins h1;
        outs = record { inside = omega (arith, whole); spelled = refl };
        tries = (finds_half bytes (e.code + 6)).found tries h2;
        debug = (finds_word bytes (e.code + 8)).found debug h3;
        size = (finds_word bytes (e.code + 12)).found size h4;
      } in
      fails_next (fails_need bytes e.code (16 + 2 * size + gap tries size + 8 * tries) (whole_placed f is)) (λ _ _. sound (record {
        registers = registers;
        ins = ins;
        tries = tries;
        debug = debug;
        size = size;
        units_at = e.code + 16;
        tries_at = e.code + (16 + 2 * size + gap tries size);
      }))))))))

  -- the units and the try items stand there
  room : (item : CodeItem) → item_at bytes e.code ≡ Ok item → HasRoom bytes item
  room item h = (founds_room bytes e.code).found item h

  fails_units : (item : CodeItem) → item.units_at + 2 * item.size ≤ length bytes → {Has : DexFault → Type 0} → Fails Has (units_at bytes item.units_at item.size)
  unfolding units_at
  fails_units item inside = fails_each (λ i. half_at bytes (item.units_at + 2 * i)) 0 item.size (λ i less. fails_half bytes (item.units_at + 2 * i) (omega (arith, inside, less)))

  founds_units : (at count : ℕ) → Founds (λ units. (length units ≡ count) × Each (λ i unit. Is16 bytes (at + 2 * i) unit) 0 units) (units_at bytes at count)
  unfolding units_at
  founds_units at count = known (finds_each (λ i unit. Is16 bytes (at + 2 * i) unit) (λ i. half_at bytes (at + 2 * i)) (λ i. finds_half bytes (at + 2 * i)) 0 count)

  -- ---- its body

  module _ (item : CodeItem) (is : IsReadItem bytes e.code item) (left : ℕ) where
    sizes_stand : AreSizes bytes is.frame (sizes_for p item left)
    sizes_stand = record { registers = is.registers; ins = is.ins; tries = is.tries; strings = are.strings; types = are.types; fields = are.fields; methods = are.methods }

    stands_so : (fault : CodeFault) → BadItem bytes (sizes_for p item left) e.code fault → HasFault bytes (parts.Code e.number fault)
    stands_so fault h = BadCode (InBody class e.code (entry_of e) is.frame (sizes_for p item left) fault (has_frame is.frame is.is) sizes_stand h refl)

    of_code_just : (fault : CodeFault) → IsJustCode bytes (sizes_for p item left) e.code fault → IsJust bytes (of_code e.number fault)
    of_code_just code.NoMemory h = absurd h
    of_code_just (code.Opcode unit) h = stands_so (code.Opcode unit) h
    of_code_just (code.Cut unit) h = stands_so (code.Cut unit) h
    of_code_just (code.Target unit) h = stands_so (code.Target unit) h
    of_code_just (code.Payload unit) h = stands_so (code.Payload unit) h
    of_code_just (code.Operand unit) h = stands_so (code.Operand unit) h
    of_code_just (code.Region place) h = stands_so (code.Region place) h
    of_code_just (code.Handler place) h = stands_so (code.Handler place) h
    of_code_just (code.FallsOff unit) h = stands_so (code.FallsOff unit) h
    of_code_just (code.Misplaced unit) h = stands_so (code.Misplaced unit) h
    of_code_just (code.Limit limit) h = tt

    has_units : (units : List ℕ) → (length units ≡ item.size) × Each (λ i unit. Is16 bytes (item.units_at + 2 * i) unit) 0 units → HasUnits bytes e.code is.frame units
    has_units units h = record { frame = is.is; many = h.0 ∙ is.size; are = subst (λ n. Each (λ i unit. Is16 bytes (n + 2 * i) unit) 0 units) is.units_at h.1 }

    -- its try items, as the definition places them
    tries_there : HasRoom bytes item → tries_at e.code is.frame + 8 * is.frame.tries ≤ length bytes
    tries_there h = let inside = h.tries in omega (arith, inside, is.tries_begin, is.tries)

    fails_units_code : HasRoom bytes item → (units : List ℕ) → (length units ≡ item.size) × Each (λ i unit. Is16 bytes (item.units_at + 2 * i) unit) 0 units
        → Fails (IsJustCode bytes (sizes_for p item left) e.code) (code_of units (drop item.tries_at bytes) (sizes_for p item left))
    fails_units_code h units g =
        let inside = h.units in
        let short : length units ≤ nowhere = omega (arith, g.0, inside, few) in
        subst (λ (n : ℕ). Fails (IsJustCode bytes (sizes_for p item left) e.code) (code_of units (drop n bytes) (sizes_for p item left))) (sym is.tries_begin)
        (fails_code bytes e.code is.frame units (has_units units g) short (tries_there h) (sizes_for p item left) is.tries)

    fails_body : HasRoom bytes item → Fails (IsJust bytes) (body_at bytes p e.number item left)
    unfolding body_at
    fails_body h = fails_next (fails_units item h.units) (λ units g. fails_lifted (of_code e.number) (fails_more of_code_just
        (fails_units_code h units ((founds_units item.units_at item.size).found units g))))

  -- ---- the method

  fails_counted : (left : ℕ) (read : Option (List ℕ) × ℕ) → Fails (IsJust bytes) (counted_lines left read)
  fails_counted left read = unless {b = leb read.1 left} (past Items) (λ _. tt) (λ _. sound (kept_lines read.0, left - read.1))

  fails_lined : (debug : ℕ) (starts : List ℕ) (left : ℕ) → Fails (IsJust bytes) (lined_at bytes debug starts left)
  unfolding lined_at
  fails_lined debug starts left = fails_either {b = eqb debug 0} {other = counted_lines left (lines_at bytes debug starts left)} (λ _. sound ([], left)) (λ _. fails_counted left (lines_at bytes debug starts left))

  fails_cells : (body : Body) (cells : ℕ) → Fails (IsJust bytes) (cells_with body cells)
  unfolding cells_with
  fails_cells body cells = unless (past Cells) (λ _. tt) (λ _. sound (cells + body_cells body))

  fails_frame : (item : CodeItem) → IsReadItem bytes e.code item → Fails (IsJust bytes) (frame_at p e item)
  fails_frame item is = frames item is.frame (has_frame is.frame is.is) is.registers is.ins

  fails_coded : (left : Budget) → Fails (IsJust bytes) (coded_at bytes p e left)
  unfolding coded_at
  fails_coded left =
      fails_next fails_item (λ item h. let is = (founds_frame bytes e.code).found item h in
      fails_next (fails_frame item is) (λ frame _.
      fails_next (fails_body item is left.items (room item h)) (λ body _.
      fails_next (fails_lined item.debug body.1 (left.items - body_items (Some body.0))) (λ lines _.
      fails_next (fails_cells body.0 left.cells) (λ cells _. sound (method_with e (Some body.0) lines.0, record { items = lines.1; cells = cells }))))))

pub fails_method : (bytes : List ℕ) (few : length bytes < 2 ^ 32) (p : Program) (are : values.AreSizes bytes (sizes_in p)) (class which place : ℕ) (method : 2 ≤ which) (e : Listed) (has : HasEntry bytes class which place (entry_of e)) (frames : Frames bytes p class e) (left : Budget) → Fails (IsJust bytes) (method_at bytes p e left)
fails_method bytes few p are class which place method e has frames left = fails_either (λ _. sound (method_with e None [], left)) (λ some. fails_coded bytes few p are class which place method e has (positive e.code some) frames left)
