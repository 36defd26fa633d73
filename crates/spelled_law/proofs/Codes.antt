-- The code and the lines of a method that are read are those that its code item spells.
use Rattle.std.proofs.Common.{◌≡◌, ◌≤◌, ◌<◌, ◌^◌, ℕ, zero, suc, ◌+◌, ◌-◌, ◌*◌, List, [], ◌∷◌, ◌++◌, length, Option, Some, None, Result, Ok, refl, sym, ap, subst, ◌∙◌, arith, true≢false}
use Rattle.std.proofs.Math.Nat.{min-le_left}
use Rattle.std.proofs.lemmas.Bool.{eqb-true, eq-eqb}
use Rattle.line_tables.specs.Text.{AscendsFrom}
use Rattle.program_model.specs.Items.{body_items}
use Rattle.program_model.specs.declared.body.Body.{Body}
use Rattle.program_model.specs.declared.program.Method.{Method}
use Rattle.program_model.specs.declared.program.Program.{Program}
use Rattle.dex_defs.specs.Sweep.{Places, instructions, starts_of}
use Rattle.dex_defs.specs.Handlers.{covering}
use Rattle.dex_defs.specs.CodeItems.{Frame, IsCode, lists_at}
use Rattle.dex_defs.specs.ClassDefs.{IsCodeOf, HasCode}
use Rattle.dex_defs.specs.DebugItems.{lines_of}
use Rattle.dex_read.specs.declared.class_data.Listed.{Listed}
use Rattle.dex_read.specs.declared.class_data.Members.{Members}
use Rattle.dex_read.specs.declared.code.CodeItem.{CodeItem}
use Rattle.dex_read.specs.declared.members.Budget.{Budget}
use Rattle.dex_read.specs.Classes.{methods_of}
use Rattle.dex_read.specs.Code.{gap, item_at, frame_at, body_at, cells_with, method_with, coded_at, method_at}
use Rattle.dex_read.specs.Header.{need_at}
use Rattle.dex_read.specs.Steps.{for_each}
use Rattle.dex_read.specs.Tables.{sizes_in}
use Rattle.dex_read.specs.Word.{half_at, word_at}
use Rattle.file_laws.specs.Founds.{Founds}
use Rattle.file_laws.specs.Items.{IsItemBody}
use Rattle.file_laws.proofs.Founding.{known, weaker, done, either, next}
use Rattle.file_laws.proofs.Bodies.{whatever}
use Rattle.file_laws.specs.Class.{IsReadItem}
use Rattle.file_laws.proofs.Classes.{founds_frame, founds_body}
use Rattle.file_laws.proofs.Lines.{founds_lines}
use Rattle.file_laws.proofs.Words.{finds_need}
use Rattle.spelled_law.proofs.Starts.{starts_ascend, wider_regions}
use Rattle.spelled_law.proofs.Turning.{Along}

-- ---- one code item

both : {Y F : Type 0} {One Two : Y → Type 0} {read : Result Y F} → Founds One read → Founds Two read → Founds (λ y. One y × Two y) read
both f g = record { found = λ y h. (f.found y h, g.found y h) }

founds_room : (bytes : List ℕ) (at : ℕ) → Founds (λ item. 16 + 2 * item.size ≤ length bytes) (item_at bytes at)
unfolding item_at
founds_room bytes at = weaker (item_at bytes at)
    (next (whatever (need_at bytes at 16)) (λ begins _.
    next (whatever (half_at bytes at)) (λ registers _.
    next (whatever (half_at bytes (at + 2))) (λ ins _.
    next (whatever (half_at bytes (at + 6))) (λ tries _.
    next (whatever (word_at bytes (at + 8))) (λ debug _.
    next (whatever (word_at bytes (at + 12))) (λ size _.
    next (known (finds_need bytes at _)) (λ whole _. done _))))))))
    (λ y q. let size = q.2.2.2.2.2 in let whole = size.2 in
    subst (λ (item : CodeItem). 16 + 2 * item.size ≤ length bytes) (sym whole.2) (room at size.0 _ _ (length bytes) whole.1))
  where
    room : (at size gap tries all : ℕ) → at + (16 + 2 * size + gap + 8 * tries) ≤ all → 16 + 2 * size ≤ all
    room at size gap tries all h = omega (arith, h)

-- the code with the type numbers of the whole table
code_with : (bytes : List ℕ) (p : Program) (at : ℕ) (f : Frame) (r : Body × List ℕ) → (h : IsItemBody bytes (sizes_in p).types at f r) → IsCode bytes (length p.types) at f h.places r.0
code_with bytes p at f r h = let c = h.code in record {
  frame = c.frame;
  registers = c.registers;
  ins = c.ins;
  units = c.units;
  many = c.many;
  are_units = c.are_units;
  pieces = c.pieces;
  swept = c.swept;
  placed = c.placed;
  insns = c.insns;
  tries = c.tries;
  are_tries = c.are_tries;
  regions = wider_regions bytes h.places (lists_at at f) (sizes_in p).types (length p.types) (min-le_left (length p.types) 4294967295) (covering h.places c.tries) r.0.regions c.regions;
}

-- where the instructions of a body that was read begin
ascending : (bytes : List ℕ) (p : Program) (at : ℕ) (f : Frame) (r : Body × List ℕ) → IsItemBody bytes (sizes_in p).types at f r → f.size < 2 ^ 31 → AscendsFrom 0 r.1
ascending bytes p at f r h few =
    let c = h.code in
    let starts : r.1 ≡ starts_of (instructions c.pieces) = h.starts ∙ ap (λ (q : Places). q.starts) c.placed in
    subst (AscendsFrom 0) (sym starts) (starts_ascend c.units 0 0 c.pieces (length c.units) (omega (arith, c.many, few)) (omega arith) c.swept)

-- ---- one method

-- the method of an entry, before its annotations
pub record IsMade (bytes : List ℕ) (p : Program) (e : Listed) (m : Method) : Type 0 where
  pub body : Option Body
  pub lines : List ℕ
  pub is : m ≡ method_with e body lines
  pub code : HasCode bytes (length p.types) e.code body lines

by_code : (bytes : List ℕ) (types code : ℕ) (b : Body) (lines : List ℕ) → (code ≡ 0 → ⊥) → IsCodeOf bytes types code b lines → HasCode bytes types code (Some b) lines
by_code bytes types zero b lines other h = absurd (other refl)
by_code bytes types (suc k) b lines other h = h

module _ (bytes : List ℕ) (few : length bytes < 2 ^ 32) (p : Program) where
  size_few : (item : CodeItem) → 16 + 2 * item.size ≤ length bytes → item.size < 2 ^ 31
  size_few item room = omega (arith, room, few)

  of_item : (e : Listed) (item : CodeItem) (is : IsReadItem bytes e.code item) (r : Body × List ℕ) (lines : List ℕ) → IsItemBody bytes (sizes_in p).types e.code is.frame r → lines ≡ lines_of bytes item.debug r.1 → IsCodeOf bytes (length p.types) e.code r.0 lines
  of_item e item is r lines h l = record {
    frame = is.frame;
    places = h.places;
    code = code_with bytes p e.code is.frame r h;
    are_lines = l ∙ ap (λ (n : ℕ). lines_of bytes n r.1) is.debug ∙ ap (λ (us : List ℕ). lines_of bytes is.frame.debug us) h.starts;
  }

  -- a body, with the item of which it was read
  abbrev OfItem : Listed → CodeItem → Body × List ℕ → Type 0
  OfItem e item r = (is : IsReadItem bytes e.code item) × IsItemBody bytes (sizes_in p).types e.code is.frame r

  founds_of_item : (e : Listed) (item : CodeItem) (left : ℕ) → IsReadItem bytes e.code item → 16 + 2 * item.size ≤ length bytes → Founds (OfItem e item) (body_at bytes p e.number item left)
  founds_of_item e item left is room = weaker (body_at bytes p e.number item left)
      (founds_body bytes e.code p e.number left item is (let small = size_few item room in omega (arith, small)))
      (λ r h. (is, h))

  item_ascends : (e : Listed) (item : CodeItem) (r : Body × List ℕ) → 16 + 2 * item.size ≤ length bytes → OfItem e item r → AscendsFrom 0 r.1
  item_ascends e item r room h = ascending bytes p e.code h.0.frame r h.1 (let small = size_few item room in omega (arith, small, h.0.size))

  founds_coded : (e : Listed) (left : Budget) → (e.code ≡ 0 → ⊥) → Founds (λ r. IsMade bytes p e r.0) (coded_at bytes p e left)
  unfolding coded_at
  founds_coded e left other = weaker (coded_at bytes p e left)
      (next (both (founds_frame bytes e.code) (founds_room bytes e.code)) (λ item i. next (whatever (frame_at p e item)) (λ frame _.
      next (founds_of_item e item left.items i.0 i.1) (λ b h. next (founds_lines bytes item.debug b.1 (left.items - body_items (Some b.0)) (item_ascends e item b i.1 h)) (λ lines _.
      next (whatever (cells_with b.0 left.cells)) (λ cells _. done (method_with e (Some b.0) lines.0, record { items = lines.1; cells = cells })))))))
      (λ y q. let b = q.2.2 in let lines = b.2 in let cells = lines.2 in record {
        body = Some b.0.0;
        lines = lines.0.0;
        is = ap (λ (r : Method × Budget). r.0) cells.2;
        code = by_code bytes (length p.types) e.code b.0.0 lines.0.0 other (of_item e q.0 b.1.0 b.0 lines.0.0 b.1.1 lines.1);
      })

  founds_method : (e : Listed) (left : Budget) → Founds (λ r. IsMade bytes p e r.0) (method_at bytes p e left)
  founds_method e left = either
      (λ z. weaker (Ok (method_with e None [], left)) (done (method_with e None [], left)) (λ y q. record {
        body = None;
        lines = [];
        is = ap (λ (r : Method × Budget). r.0) q;
        code = subst (λ (n : ℕ). HasCode bytes (length p.types) n None []) (sym (eqb-true e.code 0 z)) refl;
      }))
      (λ z. founds_coded e left (λ is. true≢false (sym (eq-eqb e.code 0 is) ∙ z)))

  -- ---- all of them

  founds_each : (es : List Listed) (left : Budget) → Founds (λ r. Along (IsMade bytes p) es r.0) (for_each (method_at bytes p) es left)
  founds_each [] left = weaker (for_each (method_at bytes p) [] left) (done ([], left)) (λ y q. subst (λ (r : List Method × Budget). Along (IsMade bytes p) [] r.0) (sym q) tt)
  founds_each (e ∷ es) left = weaker (for_each (method_at bytes p) (e ∷ es) left)
      (next (founds_method e left) (λ y _. next (founds_each es y.1) (λ ys _. done (y.0 ∷ ys.0, ys.1))))
      (λ y q. let rest = q.2 in subst (λ (r : List Method × Budget). Along (IsMade bytes p) (e ∷ es) r.0) (sym rest.2) (q.1, rest.1))

  pub founds_methods : (listed : Members) (left : Budget) → Founds (λ r. Along (IsMade bytes p) (listed.directs ++ listed.virtuals) r.0) (methods_of bytes p listed left)
  unfolding methods_of
  founds_methods listed left = founds_each (listed.directs ++ listed.virtuals) left
