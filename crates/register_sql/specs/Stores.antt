-- Defines the fields of a register over a connection, and the rows that its store may hold.
use Rattle.std.specs.Prelude.{◌≡◌, ℕ, ◌+◌, ◌-◌, ◌^◌, min, Bool, true, false, [], Option, None}
use Rattle.std.specs.Prelude.{Result, Err, IfErr, is_some, refl}
use Rattle.std.specs.Coded.{Coded, code_by, coded×, coded_ℕ, coded_bool, coded_option}
use Rattle.sqlite.specs.Held.{Held, held_code, state}
use Rattle.sqlite.specs.Store.{Ghosts}
use Rattle.sqlite.specs.contracts.error.Error as error
use Rattle.sqlite.specs.declared.error.Error.{Error}
use Rattle.sqlite.specs.State.{State, HasCleanDisk}
use Rattle.sqlite.specs.Tree.{Trees}
use Rattle.register_store.specs.Holdings.{Holding, Comes}
use Rattle.register_store.specs.Registers.{is_failure, Stops}
use Rattle.register_store.specs.StoredRows.{Content, AreSame}
use Rattle.register_store.specs.declared.store_fault.StoreFault.{StoreFault}
use Rattle.register_store.specs.declared.store_fault.StoreFault.TheVariants.{NoMemory, Store}
use Rattle.register_store.specs.declared.store_fault.StoreFault.TheVariants.{OtherSetup, Damaged}
use Rattle.register_store.specs.declared.store_fault.StoreFault.TheVariants.{OtherVersion}
use Rattle.register_sql.specs.Binding.{IsSettled}
use Rattle.register_sql.specs.Failing.{StopsFor}
use Rattle.register_sql.specs.Posting.{IsReady}
use Rattle.register_sql.specs.Rows.{AreRows, IsStored}

-- The connection; whether a setup is bound to it; whether a statement has failed, after which the
-- register is stopped; the error of that statement; the number of stations in the setup; and how
-- often the register returned Store.
pub record Kept (S : Type 0) : Type 0 where
  pub conn : Held S
  pub bound : Bool
  pub stopped : Bool
  pub failure : Option Error
  pub stations : ℕ
  pub refusals : ℕ

-- The code of a register: that of its fields.
abbrev pub kept_code : {S : Type 0} → Coded S → Coded (Kept S)
kept_code {S} store =
    code_by (Held S × (Bool × (Bool × (Option Error × (ℕ × ℕ)))))
    (coded× (held_code store) (coded× coded_bool (coded× coded_bool
    (coded× (coded_option error.the_row.coded) (coded× coded_ℕ coded_ℕ)))))
    (λ r. (r.conn, (r.bound, (r.stopped, (r.failure, (r.stations, r.refusals))))))
    (λ p. record {
      conn = p.0;
      bound = p.1.0;
      stopped = p.1.1.0;
      failure = p.1.1.1.0;
      stations = p.1.1.1.1.0;
      refusals = p.1.1.1.1.1;
    }) (λ _. refl)

-- The store is quiet if the disk has returned the bytes written to it. It may hold the content of
-- each database that a later opening may find: one while the connection is open and has no
-- transaction, one of two after a disk fault during a posting.
abbrev pub in_store : State → Holding
in_store s =
    record { is_quiet = HasCleanDisk s; holds = λ c. (db : Trees) × s.may_leave db × IsStored db c }

-- A content without any row.
abbrev pub no_rows : Content
no_rows = record { setup = []; meta = []; postings = []; spots = []; lines = []; terms = [] }

-- The invariant of the connection: it has no transaction, and until a statement has failed it is
-- open, over a whole store once a setup is bound.
pub record IsKept (s : State) (bound : Bool) (stopped : Option Error) : Type 0 where
  pub between : s.in_transaction ≡ false
  pub settled : stopped ≡ None → HasCleanDisk s → IsSettled s
  pub ready : stopped ≡ None → bound ≡ true → HasCleanDisk s → IsReady s
  pub content : stopped ≡ None → bound ≡ true → HasCleanDisk s
      → (c : Content) × AreRows s.now.trees c

-- If the call stopped the register, it was for an error that is excused.
abbrev pub IsExcusedStop : {S T : Type 0} → Ghosts S → Kept S → Kept S → Result T StoreFault
    → Type 0
IsExcusedStop g old new r =
    StopsFor (state g old.conn) (state g new.conn) old.stopped new.stopped new.failure r

-- What a call that only reads the store leaves. The store may have the same rows as before. The
-- call fails only with NoMemory, or with Store because the register has stopped, in this call or
-- before. A stop in this call is for an error that is excused. `was` and `is` are the error that
-- had stopped the register before the call, and the one after it.
pub record OnlyReads {T : Type 0} (old new : State) (was is : Option Error)
    (r : Result T StoreFault) : Type 0 where
  pub unchanged : Comes (in_store old) (in_store new) AreSame
  pub faults : IfErr r (λ fault. is_failure fault ≡ true)
  pub store : r ≡ Err Store → is_some is ≡ true
  pub stops : Stops (is_some was) (is_some is) r
  pub excused : StopsFor old new (is_some was) (is_some is) is r

-- How often the register has returned Store after this fault.
abbrev pub counted : ℕ → StoreFault → ℕ
counted refusals NoMemory = refusals
counted refusals Store = min (refusals + 1) (2 ^ 64 - 1)
counted refusals OtherSetup = refusals
counted refusals (Damaged at) = refusals
counted refusals OtherVersion = refusals
