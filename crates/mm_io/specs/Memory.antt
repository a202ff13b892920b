-- What contracts see of a source and of a sink in memory.
use Rattle.std.specs.Prelude.{ℕ, ◌+◌, ◌-◌, ◌^◌, ◌==◌, ◌&&◌, nat_lt, min, Bool, if◌then◌else◌, List, ◌++◌, length, take, drop, Result, Ok, Err, refl}
use Rattle.std.specs.List.{list_any}
use Rattle.mm_io.specs.declared.failed.Failed.{Failed}
use Rattle.std.specs.Coded.{Coded, code_by, coded×, coded_ℕ, coded_list}

-- the bytes left, the most that a call gives, the calls that fail, how many were made, and how many of them failed
pub record Supply : Type 0 where
  pub left : List ℕ
  pub most : ℕ
  pub failing : List ℕ
  pub calls : ℕ
  pub faults : ℕ

-- a supply is stored as the list and numbers of its fields
abbrev pub supply_code : Coded Supply
supply_code =
    code_by (List ℕ × (ℕ × (List ℕ × (ℕ × ℕ)))) (coded× (coded_list coded_ℕ) (coded× coded_ℕ (coded× (coded_list coded_ℕ) (coded× coded_ℕ coded_ℕ))))
    (λ s. (s.left, (s.most, (s.failing, (s.calls, s.faults)))))
    (λ p. record { left = p.0; most = p.1.0; failing = p.1.1.0; calls = p.1.1.1.0; faults = p.1.1.1.1 }) (λ _. refl)

-- the bytes taken, how many it has place for in all, the most that a call takes, the calls that fail, how many were made, and its faults
pub record Intake : Type 0 where
  pub written : List ℕ
  pub room : ℕ
  pub most : ℕ
  pub failing : List ℕ
  pub calls : ℕ
  pub faults : ℕ

-- an intake is stored as the lists and numbers of its fields
abbrev pub intake_code : Coded Intake
intake_code =
    code_by (List ℕ × (ℕ × (ℕ × (List ℕ × (ℕ × ℕ))))) (coded× (coded_list coded_ℕ) (coded× coded_ℕ (coded× coded_ℕ (coded× (coded_list coded_ℕ) (coded× coded_ℕ coded_ℕ)))))
    (λ s. (s.written, (s.room, (s.most, (s.failing, (s.calls, s.faults))))))
    (λ p. record { written = p.0; room = p.1.0; most = p.1.1.0; failing = p.1.1.1.0; calls = p.1.1.1.1.0; faults = p.1.1.1.1.1 }) (λ _. refl)

-- whether the call with this number is one of those that fail
abbrev pub is_planned : List ℕ → ℕ → Bool
is_planned failing call = list_any (λ k. k == call) failing

-- a count after one more, which stops at the last value of 64 bits
abbrev pub one_more : ℕ → ℕ
one_more count = min (count + 1) (2 ^ 64 - 1)

-- how many bytes a call that doesn't fail gives, for a buffer of this length
abbrev pub given_count : Supply → ℕ → ℕ
given_count s len = min (min (length s.left) len) s.most

-- what a read into a buffer of this length answers
abbrev pub read_answer : Supply → ℕ → Result ℕ Failed
read_answer s len = if is_planned s.failing s.calls then Err (record {}) else Ok (given_count s len)

-- the source after a read into a buffer of this length
abbrev pub supply_after : Supply → ℕ → Supply
supply_after s len =
    if is_planned s.failing s.calls
    then record s { calls = one_more s.calls; faults = one_more s.faults }
    else record s { left = drop (given_count s len) s.left; calls = one_more s.calls }

-- how many bytes a call that doesn't fail takes, of a piece of this length
abbrev pub taken_count : Intake → ℕ → ℕ
taken_count s len = min (min len (s.room - length s.written)) s.most

-- what a write of a piece of this length answers
abbrev pub write_answer : Intake → ℕ → Result ℕ Failed
write_answer s len = if is_planned s.failing s.calls then Err (record {}) else Ok (taken_count s len)

-- the sink after a write of this piece
abbrev pub intake_after : Intake → List ℕ → Intake
intake_after s bytes =
    if is_planned s.failing s.calls
    then record s { calls = one_more s.calls; faults = one_more s.faults }
    else record s {
      written = s.written ++ take (taken_count s (length bytes)) bytes;
      calls = one_more s.calls;
      faults = if (taken_count s (length bytes) == 0) && nat_lt 0 (length bytes) then one_more s.faults else s.faults;
    }
