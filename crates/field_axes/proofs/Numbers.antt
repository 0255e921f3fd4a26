-- Every refusal has a number from 1 to 16, by which it is answered.
use Rattle.std.proofs.Common.{ℕ, ◌≤◌, Bool, true, false, cond, List, ℤ}
use borrow.Author.Rules.{rules}
use Rattle.job.specs.Job.{Job}
use Rattle.job_pool.specs.Refusal.{pool_refusal}
use Rattle.ledger.specs.Call.{load}
use Rattle.ledger.specs.Refusal.{refusal_of, refusal_under}
use Rattle.panel.specs.Refusal.{size_refusal}
use Rattle.readings.specs.Refusal.{job_refusal, number_refusal, samples_refusal}
use Rattle.season_report.specs.Texts.{ends_refusal}
use Rattle.text.specs.Written.{or_short}
use Rattle.field_axes.specs.Solution.{solve_refusal}
use Rattle.field_axes.specs.Table.{table_refusal}

by-test : (test : Bool) (a b : ℕ) → a ≤ 16 → b ≤ 16 → cond test a b ≤ 16
by-test true a b h g = h
by-test false a b h g = g

pub or_short-known : (refusal needed size : ℕ) → refusal ≤ 16 → or_short refusal needed size ≤ 16
unfolding or_short
or_short-known refusal needed size h = search (rules, by-test)

number-known : (n : ℕ) (dilutions counts : List ℕ) → number_refusal n dilutions counts ≤ 16
unfolding number_refusal
number-known n dilutions counts = search (rules, by-test)

samples-known : (n : ℕ) (dilutions counts : List ℕ) → samples_refusal n dilutions counts ≤ 16
unfolding samples_refusal
samples-known n dilutions counts = search (rules, by-test, number-known)

pub table-known : (n : ℕ) (dilutions counts : List ℕ) (size : ℕ) → table_refusal n dilutions counts size ≤ 16
unfolding table_refusal
table-known n dilutions counts size = or_short-known _ _ size (samples-known n dilutions counts)

pub job-known : (n limit tolerance : ℕ) (dilutions counts : List ℕ) → job_refusal n limit tolerance dilutions counts ≤ 16
unfolding job_refusal
job-known n limit tolerance dilutions counts = search (rules, by-test, number-known)

load-known : (n : ℕ) (numbers : List ℤ) → refusal_of 0 0 (load n numbers) ≤ 16
unfolding refusal_under
load-known n numbers = search (rules, by-test)

pub solve-known : (n : ℕ) (numbers : List ℤ) (limit t size : ℕ) → solve_refusal n numbers limit t size ≤ 16
unfolding solve_refusal
solve-known n numbers limit t size = search (rules, by-test, load-known)

pub pool-known : (a b : Job) → pool_refusal a b ≤ 16
unfolding pool_refusal
pool-known a b = search (rules, by-test, job-known)

pub size-known : (b : ℤ) → size_refusal b ≤ 16
unfolding size_refusal
size-known b = search (rules, by-test)

pub ends-known : (size : ℕ) (ends : List ℕ) → ends_refusal size ends ≤ 16
unfolding ends_refusal
ends-known size ends = search (rules, by-test)
