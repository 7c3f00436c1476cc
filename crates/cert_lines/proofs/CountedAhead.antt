-- How many bytes in front of a text pass a test, as a loop over the bytes counts them.
use Rattle.std.proofs.Common.{◌≡◌, ℕ, ◌+◌, ◌<◌, List, Bool, true, false, length, drop, get_or, arith}
use Rattle.std.specs.List.{prefix_len}
use Rattle.std.proofs.lemmas.List.Sums.{prefix_len-drop_no, prefix_len-drop_yes}

-- the byte at the place passes too
pub one_more : (test : ℕ → Bool) (text : List ℕ) (i : ℕ) → i < length text → test (get_or text i 0) ≡ true
    → i + prefix_len test (drop i text) ≡ prefix_len test text → i + 1 + prefix_len test (drop (i + 1) text) ≡ prefix_len test text
one_more test text i low passes before = let one = prefix_len-drop_yes test text i 0 low passes in omega (arith, one, before)

-- it doesn't, so it is the first after them
pub last_one : (test : ℕ → Bool) (text : List ℕ) (i : ℕ) → i < length text → test (get_or text i 0) ≡ false
    → i + prefix_len test (drop i text) ≡ prefix_len test text → i ≡ prefix_len test text
last_one test text i low fails before = let none = prefix_len-drop_no test text i 0 low fails in omega (arith, none, before)
