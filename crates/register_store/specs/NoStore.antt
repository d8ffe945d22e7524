-- Defines what a register without a store holds.
use Rattle.register_store.specs.declared.no_store.NoStore.{NoStore}
use Rattle.register_store.specs.Holdings.{Holding}

-- What is written is lost, so the store is never quiet.
abbrev pub in_no_store : NoStore → Holding
in_no_store register = record { is_quiet = ⊥; holds = λ c. ⊥ }
