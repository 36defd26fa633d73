-- The frame of a code item that is read is that of its method.
use Rattle.std.proofs.Common.{◌≡◌, ℕ, ◌+◌, ◌*◌, true, cond, eqb, List, [], ◌∷◌, Option, Some, refl, ap, subst, ◌∙◌}
use Rattle.std.specs.Prelude.{sum_by, slice_get}
use Rattle.std.specs.List.{fold}
use Rattle.std.specs.Option.{option_and_then}
use Rattle.std.proofs.lemmas.Bool.{eqb-true}
use Rattle.dex_base.specs.Word.{Is16}
use Rattle.program_model.specs.Texts.{first_unit, is_wide, type_text, text_or_none, letter_of}
use Rattle.program_model.specs.MemberRules.{words_of, receiver_words, proto_of, takes_words}
use Rattle.program_model.specs.declared.flags.Flags.{Flags}
use Rattle.program_model.specs.declared.pools.MethodName.{MethodName}
use Rattle.program_model.specs.declared.pools.Proto.{Proto}
use Rattle.program_model.specs.declared.program.Class.{Class}
use Rattle.program_model.specs.declared.program.Program.{Program}
use Rattle.dex_defs.specs.Faults.{HasTypeText, HaveTexts}
use Rattle.dex_defs.specs.ClassFaults.{HasParameters, frame_words}
use Rattle.dex_defs.specs.ClassFaults as faults
use Rattle.dex_defs.specs.Spells.{Spells}
use Rattle.spelled_law.proofs.Once.{once_16}
use Rattle.clean_files.proofs.Tables.{entry_is, type_read, kinds_read, method_listed}

-- of the tables of a program that is read
module _ (bytes : List ℕ) (q : Program) (cs : List Class) (s : Spells bytes (record q { classes = cs })) where
  abbrev whole : Program
  whole = record q { classes = cs }

  type_is : (kind : ℕ) (text : List ℕ) (begin : ℕ) → HasTypeText bytes kind text begin → type_text q kind ≡ text
  unfolding type_text
  type_is kind text begin h = let r = type_read bytes whole s kind begin text h in ap (text_or_none q) r.there ∙ r.text_is

  words_is : (kind : ℕ) (text : List ℕ) (begin : ℕ) → HasTypeText bytes kind text begin → words_of q kind ≡ faults.words_of text
  unfolding letter_of
  words_is kind text begin h = ap (λ (t : List ℕ). cond (is_wide (first_unit t)) 2 1) (type_is kind text begin h)

  words_from : (kinds : List ℕ) (texts : List (List ℕ)) → HaveTexts bytes kinds texts → (a : ℕ) → fold (λ (n : ℕ) (k : ℕ). n + words_of q k) a kinds ≡ fold (λ (n : ℕ) (text : List ℕ). n + faults.words_of text) a texts
  words_from [] [] h a = refl
  words_from [] (x ∷ xs) h a = absurd h
  words_from (k ∷ ks) [] h a = absurd h
  words_from (k ∷ ks) (x ∷ xs) h a = ap (λ (w : ℕ). fold (λ (n : ℕ) (k : ℕ). n + words_of q k) (a + w) ks) (words_is k x h.0.0 h.0.1) ∙ words_from ks xs h.1 (a + faults.words_of x)

  words_same : (kinds : List ℕ) (texts : List (List ℕ)) → HaveTexts bytes kinds texts → sum_by (words_of q) kinds ≡ sum_by faults.words_of texts
  words_same kinds texts h = words_from kinds texts h 0

  -- the arguments that were compared with those of a method are as many words as its parameters have
  pub same_words : (number : ℕ) (flags : Flags) (ins : ℕ) (parameters : List (List ℕ)) → takes_words q flags (proto_of q number) ins ≡ true → HasParameters bytes number parameters → ins ≡ frame_words flags.0 parameters
  same_words number flags ins parameters fits h =
      let m = method_listed bytes whole s number h.at h.id in
      let at = (entry_is bytes 88 8 number h.at s.pools.tables.methods s.pools.stand.methods h.id).1 in
      let proto : m.x.proto ≡ h.proto = once_16 bytes (s.pools.tables.methods.offset + 8 * number + 2) m.x.proto h.proto m.is.proto.is (subst (λ (n : ℕ). Is16 bytes (n + 2) h.proto) at h.is_proto) in
      let k = kinds_read bytes whole s h.proto h.entry h.has.kind h.has.offset h.has.size h.has.kinds h.stands h.has.is_kind h.has.is_offset h.has.is_size h.has.are_kinds in
      let known : proto_of q number ≡ Some k.proto
      = ap (λ (o : Option MethodName). option_and_then (λ (x : MethodName). slice_get q.protos x.proto) o) m.there ∙ ap (λ (n : ℕ). slice_get q.protos n) proto ∙ k.there in
      let takes : eqb ins (receiver_words flags + sum_by (words_of q) k.proto.parameters) ≡ true = subst (λ (o : Option Proto). takes_words q flags o ins ≡ true) known fits in
      eqb-true ins (receiver_words flags + sum_by (words_of q) k.proto.parameters) takes
      ∙ ap (λ (n : ℕ). receiver_words flags + n) (ap (λ (ks : List ℕ). sum_by (words_of q) ks) k.kinds_are ∙ words_same h.has.kinds parameters h.has.texts)
