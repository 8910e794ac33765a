-- What a bank means: channels under numbers from 0.
use Rattle.std.specs.Prelude.{◌≡◌, ℕ, ◌<◌, ◌≤◌, Bool, true, false, ◌≢◌, List, [], length, slice_index_or}
use Rattle.symbol.specs.declared.Item.{Item}
use Rattle.channel.specs.Calls.{Calls, Known, Lawful, idle}

-- a count stops here, and no number from here on reaches a channel
abbrev pub most_channels : ℕ
most_channels = 255

-- a number without a channel: no item waits and there is no space, so put refuses and take says none
abbrev pub absent : Known
absent = record { items = []; ready = false; space = false }

-- the calls of a bank with states B, by number; the questions change nothing
pub record BankCalls (B : Type 0) : Type 0 where
  -- the letters of the channels in the order of their numbers
  pub letters : B → List ℕ
  pub known : B → ℕ → Known
  -- whether an accepted put of the item notes it lost
  pub loses : B → ℕ → Item → Bool
  pub put : B → ℕ → Item → B
  pub take : B → ℕ → B
  pub step : B → B

abbrev pub count : {B : Type 0} → BankCalls B → B → ℕ
count m b = length (m.letters b)

-- the letter at a number: a hyphen where there is no channel
abbrev pub letter_at : {B : Type 0} → BankCalls B → B → ℕ → ℕ
letter_at m b k = slice_index_or (m.letters b) k 45

-- no item waits at any number
abbrev pub AllIdle : {B : Type 0} → BankCalls B → B → Type 0
AllIdle m b = (k : ℕ) → idle (m.known b k) ≡ true

-- the bank, seen as the channel at one of its numbers
abbrev pub channel_at : {B : Type 0} → BankCalls B → ℕ → Calls B
channel_at m k = record {
  known = λ b. m.known b k;
  loses = λ b. m.loses b k;
  put = λ b. m.put b k;
  take = λ b. m.take b k;
  step = m.step;
}

-- what every bank keeps, at its state b
pub record LawfulBank {B : Type 0} (m : BankCalls B) (b : B) : Type 0 where
  -- what stands at a number below the count is a channel
  pub channels : (k : ℕ) → k < count m b → Lawful (channel_at m k) b
  -- a count stops at the most channels that a bank has
  pub most : count m b ≤ most_channels
  -- a put and a take leave what the other channels are known by
  pub put_others : (k j : ℕ) (i : Item) → j ≢ k → m.known (m.put b k i) j ≡ m.known b j
  pub take_others : (k j : ℕ) → j ≢ k → m.known (m.take b k) j ≡ m.known b j
  -- the letters never change, and so the count does not
  pub put_letters : (k : ℕ) (i : Item) → m.letters (m.put b k i) ≡ m.letters b
  pub take_letters : (k : ℕ) → m.letters (m.take b k) ≡ m.letters b
  pub step_letters : m.letters (m.step b) ≡ m.letters b
  -- at any other number there is no channel, and a call changes nothing
  pub beyond : (k : ℕ) → count m b ≤ k → m.known b k ≡ absent
  pub put_beyond : (k : ℕ) (i : Item) → count m b ≤ k → m.put b k i ≡ b
  pub take_beyond : (k : ℕ) → count m b ≤ k → m.take b k ≡ b
