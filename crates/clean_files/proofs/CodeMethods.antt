-- What a method with code that is read has passed: its code item lies in the file, has its method's frame, and no fault of code.
use Rattle.std.proofs.Common.{◌≡◌, ◌≤◌, ◌<◌, ◌^◌, ℕ, ◌+◌, ◌-◌, ◌*◌, true, leb, List, length, drop, Some, Result, refl, sym, ap, subst, ◌∙◌, arith}
use Rattle.std.specs.Prelude.{◌&&◌}
use Rattle.std.proofs.lemmas.Bool.{leb-true, eqb-true}
use Rattle.lemmas.proofs.Bools.{and_parts}
use Rattle.dex_base.specs.Decides.{Each}
use Rattle.dex_base.specs.Word.{Is16}
use Rattle.dex_pools.proofs.Finding.{finds_each}
use Rattle.insn_set.specs.declared.form.Insn.{Insn}
use Rattle.insn_set.specs.declared.form.Insn.TheVariants.{ConstString, ConstClass, CheckCast, InstanceOf, NewInstance, NewArray, FilledNewArray, InstanceGet, InstancePut, StaticGet, StaticPut, Invoke}
use Rattle.program_model.specs.Items.{body_items}
use Rattle.program_model.specs.MemberRules.{proto_of, takes_words}
use Rattle.program_model.specs.declared.program.Class.{Class}
use Rattle.program_model.specs.declared.program.Program.{Program}
use Rattle.code_read.specs.declared.fault.CodeFault.{CodeFault}
use Rattle.code_read.specs.declared.sizes.Sizes.{Sizes}
use Rattle.code_read.specs.Checks.{operands_inside}
use Rattle.code_read.specs.Code.{code_of}
use Rattle.dex_defs.specs.ClassFaults.{HasParameters, AreSizes, frame_words}
use Rattle.dex_defs.specs.CodeItems.{Frame, IsFrame, gap_of, tries_at}
use Rattle.dex_defs.specs.CodeFaults.{HasUnits, BadCode}
use Rattle.dex_defs.specs.Spells.{Spells}
use Rattle.dex_read.specs.declared.class_data.Listed.{Listed}
use Rattle.dex_read.specs.declared.code.CodeItem.{CodeItem}
use Rattle.dex_read.specs.declared.members.Budget.{Budget}
use Rattle.dex_read.specs.Code.{gap, item_at, frame_at, units_at, body_at, sizes_for, of_code, lined_at, cells_with, method_with, coded_at, method_at}
use Rattle.dex_read.specs.Header.{need_at}
use Rattle.dex_read.specs.Tables.{sizes_in}
use Rattle.dex_read.specs.Word.{half_at, word_at}
use Rattle.file_laws.specs.Founds.{Founds}
use Rattle.file_laws.proofs.Bodies.{whatever}
use Rattle.file_laws.proofs.Founding.{known, weaker, done, when, either, next, lifted}
use Rattle.file_laws.specs.Class.{IsReadItem}
use Rattle.file_laws.proofs.Classes.{founds_frame}
use Rattle.file_laws.proofs.Words.{finds_half, finds_need}
use Rattle.refused_law.proofs.ValueFaults as values
use Rattle.spelled_law.proofs.Once.{three, four, once_32}
use Rattle.clean_files.proofs.CodeChecked.{IsChecked, founds_checked}
use Rattle.clean_files.proofs.CodeFrames.{same_words}
use Rattle.clean_files.proofs.CodeItems.{frame_once, no_code}

-- ---- sizes

-- how many items are left says nothing of operands
items_free : (insn : Insn) (s : Sizes) (n : ℕ) → operands_inside (record s { items = n }) insn ≡ operands_inside s insn
items_free (ConstString to string) s n = refl
items_free (ConstClass to kind) s n = refl
items_free (CheckCast on kind) s n = refl
items_free (InstanceOf to from kind) s n = refl
items_free (NewInstance to kind) s n = refl
items_free (NewArray to size kind) s n = refl
items_free (FilledNewArray kind args) s n = refl
items_free (InstanceGet item to on field) s n = refl
items_free (InstancePut item from on field) s n = refl
items_free (StaticGet item to field) s n = refl
items_free (StaticPut item from field) s n = refl
items_free (Invoke kind method args) s n = refl
items_free insn s n = refl

abbrev sizes_made : ℕ → ℕ → ℕ → ℕ → ℕ → ℕ → ℕ → ℕ → Sizes
sizes_made registers ins tries strings types fields methods items =
    record { registers = registers; ins = ins; tries = tries; strings = strings; types = types; fields = fields; methods = methods; items = items }

-- ---- readings

both : {Y F : Type 0} {One Two : Y → Type 0} {read : Result Y F} → Founds One read → Founds Two read → Founds (λ y. One y × Two y) read
both f g = record { found = λ y h. (f.found y h, g.found y h) }

-- the item does not pass the end
abbrev pub Whole : List ℕ → ℕ → CodeItem → Type 0
Whole bytes at item = at + (16 + 2 * item.size + gap item.tries item.size + 8 * item.tries) ≤ length bytes

founds_whole : (bytes : List ℕ) (at : ℕ) → Founds (Whole bytes at) (item_at bytes at)
unfolding item_at
founds_whole bytes at = weaker (item_at bytes at)
    (next (whatever (need_at bytes at 16)) (λ begins _.
    next (whatever (half_at bytes at)) (λ registers _.
    next (whatever (half_at bytes (at + 2))) (λ ins _.
    next (whatever (half_at bytes (at + 6))) (λ tries _.
    next (whatever (word_at bytes (at + 8))) (λ debug _.
    next (whatever (word_at bytes (at + 12))) (λ size _.
    next (known (finds_need bytes at _)) (λ whole _. done _))))))))
    (λ y q. let tries = q.2.2.2 in let size = tries.2.2 in let whole = size.2 in subst (Whole bytes at) (sym whole.2) whole.1)

founds_units : (bytes : List ℕ) (at count : ℕ) → Founds (λ units. (length units ≡ count) × Each (λ i unit. Is16 bytes (at + 2 * i) unit) 0 units) (units_at bytes at count)
unfolding units_at
founds_units bytes at count = known (finds_each (λ i unit. Is16 bytes (at + 2 * i) unit) (λ i. half_at bytes (at + 2 * i)) (λ i. finds_half bytes (at + 2 * i)) 0 count)

module _ (bytes : List ℕ) (few : length bytes < 2 ^ 32) (q : Program) where
  abbrev pub Fits : Listed → CodeItem → Type 0
  Fits e item = (takes_words q e.flags (proto_of q e.number) item.ins && leb item.ins item.registers) ≡ true

  founds_fits : (e : Listed) (item : CodeItem) → Founds (λ u. Fits e item) (frame_at q e item)
  unfolding frame_at
  founds_fits e item = weaker (frame_at q e item) (when _ (done tt)) (λ y h. h.0)

  -- its body, with the frame of the item
  pub record Bodied (e : Listed) (item : CodeItem) (left : ℕ) : Type 0 where
    pub is : IsReadItem bytes e.code item
    pub units : List ℕ
    pub has : HasUnits bytes e.code is.frame units
    pub read : IsChecked units (drop (tries_at e.code is.frame) bytes) (sizes_for q item left)

  founds_body : (e : Listed) (item : CodeItem) (left : ℕ) (is : IsReadItem bytes e.code item) → Whole bytes e.code item → Founds (λ r. Bodied e item left) (body_at bytes q e.number item left)
  unfolding body_at
  founds_body e item left is whole = weaker (body_at bytes q e.number item left)
      (next (founds_units bytes item.units_at item.size) (λ units h. lifted (of_code e.number)
      (subst (λ (n : ℕ). Founds (λ r. IsChecked units (drop n bytes) (sizes_for q item left)) (code_of units (drop n bytes) (sizes_for q item left))) (sym is.tries_begin)
      (founds_checked units (drop (tries_at e.code is.frame) bytes) (sizes_for q item left) (let long = h.0 in omega (arith, long, whole, few))))))
      (λ y h. let is_units = h.1 in record {
        is = is;
        units = h.0;
        has = record { frame = is.is; many = is_units.0 ∙ is.size; are = subst (λ (n : ℕ). Each (λ i unit. Is16 bytes (n + 2 * i) unit) 0 h.0) is.units_at is_units.1 };
        read = subst (λ (n : ℕ). IsChecked h.0 (drop n bytes) (sizes_for q item left)) is.tries_begin h.2;
      })

  -- what the code of an entry has passed
  pub record Coded (e : Listed) : Type 0 where
    pub item : CodeItem
    pub whole : Whole bytes e.code item
    pub fits : Fits e item
    pub left : ℕ
    pub body : Bodied e item left

  founds_coded : (e : Listed) (left : Budget) → Founds (λ r. Coded e) (coded_at bytes q e left)
  unfolding coded_at
  founds_coded e left = weaker (coded_at bytes q e left)
      (next (both (founds_frame bytes e.code) (founds_whole bytes e.code)) (λ item i. next (founds_fits e item) (λ frame _.
      next (founds_body e item left.items i.0 i.1) (λ b h. next (whatever (lined_at bytes item.debug b.1 (left.items - body_items (Some b.0)))) (λ lines _.
      next (whatever (cells_with b.0 left.cells)) (λ cells _. done (method_with e (Some b.0) lines.0, record { items = lines.1; cells = cells })))))))
      (λ y h. let frame = h.2 in let body = frame.2 in record { item = h.0; whole = h.1.1; fits = frame.1; left = left.items; body = body.1 })

  pub founds_method : (e : Listed) (left : Budget) → 0 < e.code → Founds (λ r. Coded e) (method_at bytes q e left)
  founds_method e left some = either (λ none. absurd (let z = eqb-true e.code 0 none in omega (arith, some, z))) (λ _. founds_coded e left)

  pub begins_inside : (e : Listed) → Coded e → e.code + 16 ≤ length bytes
  begins_inside e c = let whole = c.whole in omega (arith, whole)

  -- ---- what it says of a frame that stands there

  module _ (e : Listed) (c : Coded e) (f : Frame) (is_frame : IsFrame bytes e.code f) where
    same : c.body.is.frame ≡ f
    same = frame_once bytes e.code c.body.is.frame f c.body.is.is is_frame

    size_same : c.item.size ≡ f.size
    size_same = c.body.is.size ∙ ap (λ (x : Frame). x.size) same

    tries_same : c.item.tries ≡ f.tries
    tries_same = c.body.is.tries ∙ ap (λ (x : Frame). x.tries) same

    pub lies_inside : e.code + (16 + 2 * f.size + gap_of f + 8 * f.tries) ≤ length bytes
    lies_inside = subst (λ (n : ℕ). e.code + (16 + 2 * f.size + gap n f.size + 8 * n) ≤ length bytes) tries_same
        (subst (λ (n : ℕ). e.code + (16 + 2 * n + gap c.item.tries n + 8 * c.item.tries) ≤ length bytes) size_same c.whole)

    fits_both : (takes_words q e.flags (proto_of q e.number) c.item.ins ≡ true) × (leb c.item.ins c.item.registers ≡ true)
    fits_both = and_parts (takes_words q e.flags (proto_of q e.number) c.item.ins) (leb c.item.ins c.item.registers) c.fits

    pub has_room : f.ins ≤ f.registers
    has_room =
        let le = leb-true c.item.ins c.item.registers fits_both.1 in
        let ins : c.item.ins ≡ f.ins = c.body.is.ins ∙ ap (λ (x : Frame). x.ins) same in
        let registers : c.item.registers ≡ f.registers = c.body.is.registers ∙ ap (λ (x : Frame). x.registers) same in
        omega (arith, le, ins, registers)

    pub own_words : (cs : List Class) → Spells bytes (record q { classes = cs }) → (parameters : List (List ℕ)) → HasParameters bytes e.number parameters → f.ins ≡ frame_words e.flags.0 parameters
    own_words cs s parameters h = sym (c.body.is.ins ∙ ap (λ (x : Frame). x.ins) same) ∙ same_words bytes q cs s e.number e.flags c.item.ins parameters fits_both.0 h

    -- sizes by the tables and the frame, however many items are left
    sizes_are : values.AreSizes bytes (sizes_in q) → (sizes : Sizes) → AreSizes bytes f sizes → sizes ≡ sizes_for q c.item sizes.items
    sizes_are are sizes h =
        four (λ (registers ins tries strings : ℕ). sizes_made registers ins tries strings sizes.types sizes.fields sizes.methods sizes.items)
        (h.registers ∙ ap (λ (x : Frame). x.registers) (sym same) ∙ sym c.body.is.registers) (h.ins ∙ ap (λ (x : Frame). x.ins) (sym same) ∙ sym c.body.is.ins) (h.tries ∙ sym tries_same)
        (once_32 bytes 56 sizes.strings (sizes_in q).strings h.strings are.strings)
        ∙ three (λ (types fields methods : ℕ). sizes_made c.item.registers c.item.ins c.item.tries (sizes_in q).strings types fields methods sizes.items)
        (once_32 bytes 64 sizes.types (sizes_in q).types h.types are.types) (once_32 bytes 80 sizes.fields (sizes_in q).fields h.fields are.fields)
        (once_32 bytes 88 sizes.methods (sizes_in q).methods h.methods are.methods)

    pub no_body : values.AreSizes bytes (sizes_in q) → (sizes : Sizes) → AreSizes bytes f sizes → (fault : CodeFault) → BadCode bytes sizes e.code fault → ⊥
    no_body are sizes h fault wrong =
        let its = sizes_are are sizes h in
        let whole = c.whole in
        let many = c.body.has.many in
        let size = c.body.is.size in
        no_code bytes e.code c.body.is.frame c.body.units c.body.has (omega (arith, whole, many, size, few)) (sizes_for q c.item c.left) c.body.is.tries c.body.read
        sizes (ap (λ (x : Sizes). x.types) its) (λ insn e. ap (λ (x : Sizes). operands_inside x insn) its ∙ items_free insn (sizes_for q c.item c.left) sizes.items ∙ e) fault wrong
