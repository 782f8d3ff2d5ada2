use Rattle.ac_round_trip.proofs.ComesBack.{comes_back, same_string, bare_string, comes_back_in, bare_comes_back_in, leads_back, leads_back_bare}
use Rattle.ac_round_trip.proofs.laws.data_comes_back.Goals as goal

pub returns-clause-anywhere : goal.returns-clause-anywhere
returns-clause-anywhere c = comes_back

pub returns-clause-in_each_home : goal.returns-clause-in_each_home
returns-clause-in_each_home c = λ mode z d T v mark s h is_data. (comes_back_in mode z d T v mark s h is_data, bare_comes_back_in mode z d T v mark s h is_data)

pub returns-clause-there : goal.returns-clause-there
returns-clause-there c = λ mode z T v mark s h is_data N. (leads_back z T v mark s mode h is_data N, leads_back_bare z T v mark s mode h is_data N)

pub returns-clause-same_string : goal.returns-clause-same_string
returns-clause-same_string c = λ mode z c T v mark s h is_data y coherent d home b other marked. (
  λ now. same_string mode z c T v mark s h is_data y coherent d other marked home b now,
  bare_string mode z c T v mark s h is_data y coherent d other marked,
)
