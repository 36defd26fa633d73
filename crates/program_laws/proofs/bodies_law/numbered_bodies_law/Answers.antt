use Rattle.std.proofs.Common.{◌≡◌, true}
use Rattle.std.specs.Option.{option_map}
use Rattle.dalvik_defs.specs.Naming.{body_of}
use Rattle.program_laws.proofs.Named.{others_named}
use Rattle.program_laws.proofs.bodies_law.numbered_bodies_law.Goals as goal

pub returns : goal.returns
returns c = λ p q test h. others_named (λ k a b. test k (option_map (body_of p) a) (option_map (body_of p) b) ≡ true) (λ k a b. test k a b ≡ true) p (λ k a b r. r) q h
