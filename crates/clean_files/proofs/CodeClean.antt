-- A file that is read has no fault of code, and its code items lie in the file.
use Rattle.std.proofs.Common.{◌≡◌, ◌≤◌, ◌<◌, ◌^◌, ℕ, ◌+◌, ◌*◌, List, length, Ok, sym, ap, subst, ◌∙◌, arith}
use Rattle.program_model.specs.declared.program.Program.{Program}
use Rattle.code_read.specs.declared.fault.CodeFault.{CodeFault}
use Rattle.code_read.specs.declared.sizes.Sizes.{Sizes}
use Rattle.dex_defs.specs.ClassData.{Entry}
use Rattle.dex_defs.specs.ClassFaults.{HasParameters, AreSizes, frame_words, InCode, FewRegisters, OtherWords, InBody}
use Rattle.dex_defs.specs.CodeItems.{Frame, IsFrame, gap_of, tries_at}
use Rattle.dex_defs.specs.CodeFaults.{BadCode}
use Rattle.dex_defs.specs.Parts.{Fault}
use Rattle.dex_defs.specs.Places.{Leads, HasEntry, HasFrame}
use Rattle.dex_defs.specs.Spells.{Spells}
use Rattle.dex_read.specs.File.{program_at}
use Rattle.file_laws.proofs.Tables.{finds_head}
use Rattle.read_laws.proofs.Bounds.{AreBytes}
use Rattle.read_laws.proofs.Told.{IsRead, is_read}
use Rattle.refused_law.proofs.Read.{sizes_are}
use Rattle.refused_law.proofs.ValueFaults as values
use Rattle.dex_read.specs.Tables.{sizes_in}
use Rattle.spelled_law.proofs.Whole.{few_bytes, read_is_spelled}
use Rattle.clean_files.proofs.CodeMethods.{lies_inside, begins_inside, has_room, own_words, no_body}
use Rattle.clean_files.proofs.CodeReached.{Reached, reached}

module _ (bytes : List ℕ) (are : AreBytes bytes) (p : Program) (read : program_at bytes ≡ Ok p) where
  made : IsRead bytes p
  made = is_read bytes p read

  abbrev q : Program
  q = made.tables

  few : length bytes < 2 ^ 32
  few = let h = (finds_head bytes).found (made.tables, made.left) made.head in few_bytes bytes h.version are h.header.header

  spelled : Spells bytes (record q { classes = made.classes })
  spelled = subst (Spells bytes) made.is (read_is_spelled bytes p are read)

  tables : values.AreSizes bytes (sizes_in q)
  tables = sizes_are bytes are q made.left made.head

  -- the method that an entry with code says
  its : (class which place : ℕ) (e : Entry) → HasEntry bytes class which place e → 2 ≤ which → 0 < e.code → Reached bytes few q e
  its class which place e h method some = reached bytes few q (record { items = made.left; cells = 0 }) made.classes made.filled spelled class which place e h method some

  module _ (class at : ℕ) (e : Entry) (f : Frame) (h : HasFrame bytes class e at f) where
    method : Reached bytes few q e
    method = its class h.which h.place e h.entry h.method h.leads.0

    place_is : at ≡ method.x.code
    place_is = h.leads.1 ∙ ap (λ (y : Entry). y.code) (sym method.is)

    frame_is : IsFrame bytes method.x.code f
    frame_is = subst (λ (n : ℕ). IsFrame bytes n f) place_is h.is

    inside : at + (16 + 2 * f.size + gap_of f + 8 * f.tries) ≤ length bytes
    inside = subst (λ (n : ℕ). n + (16 + 2 * f.size + gap_of f + 8 * f.tries) ≤ length bytes) (sym place_is) (lies_inside bytes few q method.x method.coded f frame_is)

    room : f.ins ≤ f.registers
    room = has_room bytes few q method.x method.coded f frame_is

    words : (parameters : List (List ℕ)) → HasParameters bytes e.number parameters → f.ins ≡ frame_words e.flags parameters
    words parameters g = subst (λ (y : Entry). f.ins ≡ frame_words y.flags parameters) method.is
        (own_words bytes few q method.x method.coded f frame_is made.classes spelled parameters (subst (λ (y : Entry). HasParameters bytes y.number parameters) (sym method.is) g))

    body : (sizes : Sizes) → AreSizes bytes f sizes → (fault : CodeFault) → BadCode bytes sizes at fault → ⊥
    body sizes g fault wrong = no_body bytes few q method.x method.coded f frame_is tables sizes g fault (subst (λ (n : ℕ). BadCode bytes sizes n fault) place_is wrong)

  -- ---- code items lie in the file

  pub frame_inside : (class which place at : ℕ) (e : Entry) → 2 ≤ which → HasEntry bytes class which place e → Leads e.code at → at + 16 ≤ length bytes
  frame_inside class which place at e method h leads =
      let m = its class which place e h method leads.0 in
      let whole = begins_inside bytes few q m.x m.coded in
      let here : m.x.code ≡ at = ap (λ (y : Entry). y.code) m.is ∙ sym leads.1 in
      omega (arith, whole, here)

  pub units_inside : (class at : ℕ) (e : Entry) (f : Frame) → HasFrame bytes class e at f → at + (16 + 2 * f.size) ≤ length bytes
  units_inside class at e f h = let all = inside class at e f h in omega (arith, all)

  pub tries_inside : (class at size : ℕ) (e : Entry) (f : Frame) → HasFrame bytes class e at f → at + size ≡ tries_at at f + 8 * f.tries → at + size ≤ length bytes
  tries_inside class at size e f h same = by_gap (gap_of f) (inside class at e f h) same
    where
      by_gap : (gap : ℕ) → at + (16 + 2 * f.size + gap + 8 * f.tries) ≤ length bytes → at + size ≡ at + 16 + 2 * f.size + gap + 8 * f.tries → at + size ≤ length bytes
      by_gap gap all same = omega (arith, all, same)

  -- ---- no fault of code stands there

  pub none_in_code : (fault : Fault) → InCode bytes fault → ⊥
  none_in_code fault (FewRegisters class at e f h less is) = let le = room class at e f h in omega (arith, le, less)
  none_in_code fault (OtherWords class at e f parameters h g other is) = other (words class at e f h parameters g)
  none_in_code fault (InBody class at e f sizes wrong h g bad is) = body class at e f h sizes g wrong bad
