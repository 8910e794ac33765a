-- What a call of a chain leaves: the chain, the sheet and the answer.
use Rattle.std.specs.Prelude.{◌≡◌, ℕ, ◌*◌, ◌<◌, ◌≤◌, cond, Some, None, Ok, Err, Option, Result, nat_lt}
use Rattle.symbol.specs.declared.Frame.{Frame}
use Rattle.eventlog.specs.Sheet.{Wrote, room}
use Rattle.eventlog.specs.declared.sheet.Sheet.{Sheet}
use Rattle.port.specs.Figures.{figures_of}
use Rattle.port.specs.Port.{Turn}
use Rattle.port.specs.declared.figures.Figures.{Figures}
use Rattle.bank.specs.Bank.{BankCalls}
use Rattle.symbol.specs.declared.end.End.{End}
use Rattle.model.specs.declared.Refusal.{Refusal}
use Rattle.model.specs.Chain.{Chain, answer, collectable, collects, inject_refusal, injects, login_refusal, logins}
use Rattle.model.specs.Chain.{port_of, release_refusal, releases, step_refusal, steps}
use Rattle.chain.specs.declared.login.Login.{Login}
use Rattle.chain.specs.declared.token.Token.{Token}

-- A call by its turn and its answer, on a sheet: the chain is the turn's, and its records stand behind the bytes used.
-- A refused call has no record.
pub record Called {C R : Type 0} (t : Turn C) (a : R) (before : Sheet) (c : C) (after : Sheet) (r : R) : Type 0 where
  pub state : c ≡ t.state
  pub log : Wrote before t.events after
  pub answers : r ≡ a

-- a collect hands out a token of the end and the frame
abbrev pub handed_over : End → Result Frame Refusal → Result Token Refusal
handed_over e (Ok f) = Ok (record { end = e; frame = f })
handed_over e (Err r) = Err r

-- a refused release hands the token back
abbrev pub handed_back : Token → Option Refusal → Result (Unit {0}) (Token × Refusal)
handed_back t None = Ok tt
handed_back t (Some e) = Err (t, e)

-- the ranges that a login keeps to which is not refused
pub record LoginFits (links : ℕ) (l : Login) : Type 0 where
  pub link : l.link < links
  pub west_some : 1 ≤ l.west
  pub west_few : l.west ≤ 32
  pub east_some : 1 ≤ l.east
  pub east_few : l.east ≤ 32
  pub n : l.east_n ≤ 15

module _ {B : Type 0} (M : BankCalls B) (c : Chain B) where
  abbrev pub check_login : Login → Result (Unit {0}) Refusal
  check_login l = answer (login_refusal M c l.link l.west l.east l.west_n l.east_n) tt

  abbrev pub login_call : Login → Turn (Chain B)
  login_call l = logins M c l.link l.west l.east l.west_n l.east_n

  abbrev pub Step : Sheet → Chain B → Sheet → Result (Unit {0}) Refusal → Type 0
  Step sheet = Called (steps M c (room sheet)) (answer (step_refusal M c (room sheet)) tt) sheet

  abbrev pub Inject : End → Sheet → Chain B → Sheet → Result (Unit {0}) Refusal → Type 0
  Inject e sheet = Called (injects M c e (room sheet)) (answer (inject_refusal M c e (room sheet)) tt) sheet

  abbrev pub Collect : End → Sheet → Chain B → Sheet → Result Token Refusal → Type 0
  Collect e sheet = Called (collects M c e (room sheet)) (handed_over e (collectable M c e (room sheet))) sheet

  abbrev pub Release : Token → Sheet → Chain B → Sheet → Result (Unit {0}) (Token × Refusal) → Type 0
  Release t sheet =
      Called (releases M c t.end t.frame.number (room sheet))
      (handed_back t (release_refusal M c t.end t.frame.number (room sheet)))
      sheet

-- what a page shows of port p, where the chain has such a port
abbrev pub figures_at : {B : Type 0} → Chain B → ℕ → Option Figures
figures_at c p = cond (nat_lt p (2 * c.links)) (Some (figures_of (port_of c p))) None
