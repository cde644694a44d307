-- The vif of a name is that of an interface with this name.
use Rattle.std.proofs.Common.{◌≡◌, ℕ, suc, ◌+◌, List, [], ◌∷◌, Some, bytes_eq}
use Rattle.std.proofs.Common.{subst, arith, inl, inr}
use Rattle.std.proofs.lemmas.Bool.{cases_Bool}
use Rattle.std.proofs.lemmas.Option.{same_Some}
use Rattle.std.specs.Cmp.Lexicographic.{bytes_decides}
use Rattle.smc_rules.specs.Interfaces.{vif_from, vif_of, name_of}
use Rattle.smc_words.specs.Words.{Word}
use Rattle.smc_rules.specs.declared.interface.Interface.{Interface}

named_from : (n : ℕ) (name : Word) (is : List Interface) (v : ℕ) → vif_from n name is ≡ Some v →
    (k : ℕ) × (v ≡ n + k) × (name_of is k ≡ name)
named_from n name [] v found = absurd (cc found)
named_from n name (i ∷ is) v found =
    elim (cases_Bool (bytes_eq i.name name)) [
      | inl same ↦
          let here : Some n ≡ Some v = rw same at found in
          let place : n ≡ v = same_Some n v here in
          (0, omega (arith, place), (bytes_decides i.name name).0 same)
      | inr other ↦
          let later : vif_from (n + 1) name is ≡ Some v = rw other at found in
          let rest = named_from (n + 1) name is v later in
          let place : v ≡ n + 1 + rest.0 = rest.1 in
          (suc rest.0, omega (arith, place), rest.2)
    ]

pub vif_named : (name : Word) (is : List Interface) (v : ℕ) → vif_of is name ≡ Some v →
    name_of is v ≡ name
vif_named name is v found =
    let there = named_from 0 name is v found in
    let place : v ≡ 0 + there.0 = there.1 in
    let same : there.0 ≡ v = omega (arith, place) in
    subst (λ k. name_of is k ≡ name) same there.2
